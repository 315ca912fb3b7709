-- Each text has a list of pieces or a first failing place: both are computed here, from the definitions.
use Rattle.std.proofs.Common.{◌≡◌, ℕ, suc, zero, ◌+◌, ◌-◌, ◌<◌, ◌≤◌, Bool, false, List, [], ◌∷◌, Option, Some, None, length, take, drop, slice_index, refl, sym, subst, arith, inl, inr}
use Rattle.std.specs.Prelude.{◌⊎◌}
use Rattle.std.proofs.lemmas.List.{length-drop, take-append-drop}
use Rattle.cl_tree.specs.declared.pieces.Closed.{Closed}
use Rattle.cl_tree.specs.declared.pieces.Opening.{Opening}
use Rattle.cl_tree.specs.declared.pieces.Opening.TheVariants.{Runs, Closes, Space, Punct, Other}
use Rattle.cl_tree.specs.declared.pieces.Place.{Place}
use Rattle.cl_tree.specs.declared.pieces.Rule.{Rule}
use Rattle.cl_tree.specs.declared.token.Token.{Token}
use Rattle.cl_tree.specs.Joins.{bytes_of, places_of}
use Rattle.cl_tree.specs.Pieces.{opening, opening_len}
use Rattle.cl_tree.specs.Tokens.{Before, at_start, behind, flaw, IsTaken, IsStuck, IsCut, IsFault, IsLexed, FailsAt, HasAnswer, unfinished, strange, number_of, place_at, joined, tokens_from}
use Rattle.cl_lex.specs.Scans.{span, closing, longest_mark}
use Rattle.cl_lex.proofs.Taken.{run_taken, close_taken, close_stuck, space_taken, punct_taken, run_within, punct_none, other_none}

-- how long the piece is at the start of a text, and why none is there
abbrev some_len : ℕ → Option ℕ
some_len zero = None
some_len (suc n) = Some (suc n)

abbrev len_of : Opening → List ℕ → Option ℕ
len_of (Runs r) text = Some (1 + span r (slice_index text 0) (drop 1 text))
len_of (Closes k) text = closing k (opening_len k) false (drop (opening_len k) text)
len_of Space text = Some 1
len_of Punct text = some_len (longest_mark text)
len_of Other text = None

abbrev stuck_of : Opening → List ℕ → Rule × ℕ
stuck_of (Closes k) text = unfinished k text
stuck_of (Runs r) text = strange text
stuck_of Space text = strange text
stuck_of Punct text = strange text
stuck_of Other text = strange text

abbrev IsFound : Bool → List ℕ → Option ℕ → Rule × ℕ → Type 0
IsFound f text None e = IsStuck f text e.0 e.1
IsFound f text (Some n) e = IsTaken f (take n text) text × (0 < n) × (n ≤ length text)

close_found : (f : Bool) (k : Closed) (text : List ℕ) (x : Option ℕ) → 0 < length text → opening f text ≡ Closes k → closing k (opening_len k) false (drop (opening_len k) text) ≡ x → IsFound f text x (unfinished k text)
close_found f k text (Some n) h o e = close_taken f k text n h o e
close_found f k text None h o e = inl (k, close_stuck f k text h o e, refl)

punct_found : (f : Bool) (text : List ℕ) (n : ℕ) → 0 < length text → opening f text ≡ Punct → longest_mark text ≡ n → IsFound f text (some_len n) (strange text)
punct_found f text zero h o e = let s = punct_none f text h o e in inr (s, refl)
punct_found f text (suc n) h o e = let t = punct_taken f text (suc n) o e (omega arith) in (t.0, omega arith, t.1)

found_by : (f : Bool) (text : List ℕ) (o : Opening) → 0 < length text → opening f text ≡ o → IsFound f text (len_of o text) (stuck_of o text)
found_by f text (Runs r) h o = let w = run_within f r text h o in (run_taken f r text _ h o refl, omega arith, w)
found_by f text (Closes k) h o = close_found f k text _ h o refl
found_by f text Space h o = (space_taken f text h o, omega arith, omega arith)
found_by f text Punct h o = punct_found f text _ h o refl
found_by f text Other h o = inr (other_none f text h o, refl)

-- the cut of a text into pieces, as far as it goes
record Cutting : Type 0 where
  pieces : List (List ℕ)
  last : Before
  rest : List ℕ
  fault : Option (Rule × ℕ)

abbrev ended : Before → List ℕ → Option (Rule × ℕ) → Cutting
ended s rest fault = record { pieces = []; last = s; rest = rest; fault = fault }

abbrev by_flaw : Before → List ℕ → List ℕ → Cutting → Option (Rule × ℕ) → Cutting
by_flaw s text p next (Some e) = ended s text (Some e)
by_flaw s text p next None = record { pieces = p ∷ next.pieces; last = next.last; rest = next.rest; fault = next.fault }

abbrev by_len : (Before → List ℕ → Cutting) → Before → List ℕ → Option ℕ → Cutting
by_len next s text None = ended s text (Some (stuck_of (opening s.fresh text) text))
by_len next s text (Some n) = by_flaw s text (take n text) (next (behind s (take n text)) (drop n text)) (flaw s (take n text))

-- with at most so many pieces
abbrev cutting : ℕ → Before → List ℕ → Cutting
cutting zero s text = ended s text None
cutting (suc k) s [] = ended s [] None
cutting (suc k) s (b ∷ bs) = by_len (cutting k) s (b ∷ bs) (len_of (opening s.fresh (b ∷ bs)) (b ∷ bs))

abbrev IsEnd : Before → List ℕ → Option (Rule × ℕ) → Type 0
IsEnd s rest None = rest ≡ []
IsEnd s rest (Some e) = IsFault s rest e.0 e.1

abbrev IsDone : Before → List ℕ → Cutting → Type 0
IsDone s text c = IsCut s c.pieces text c.last c.rest × IsEnd c.last c.rest c.fault

flaw_done : (s : Before) (text : List ℕ) (n : ℕ) (next : Cutting) (x : Option (Rule × ℕ)) → IsTaken s.fresh (take n text) text → flaw s (take n text) ≡ x → IsDone (behind s (take n text)) (drop n text) next → IsDone s text (by_flaw s text (take n text) next x)
flaw_done s text n next (Some e) t q d = ((refl, refl), inr (take n text, t, q))
flaw_done s text n next None t q d = ((t, q, drop n text, sym (take-append-drop n text), d.0), d.1)

len_done : (next : Before → List ℕ → Cutting) (s : Before) (text : List ℕ) (x : Option ℕ) → ((u : Before) (rest : List ℕ) → length rest < length text → IsDone u rest (next u rest)) → IsFound s.fresh text x (stuck_of (opening s.fresh text) text) → IsDone s text (by_len next s text x)
len_done next s text None step f = ((refl, refl), inl f)
len_done next s text (Some n) step f =
    let p : 0 < n = f.1 in
    let w : n ≤ length text = f.2 in
    let l : length (drop n text) ≡ length text - n = length-drop n text in
    flaw_done s text n _ _ f.0 refl (step (behind s (take n text)) (drop n text) (omega arith))

cutting_done : (k : ℕ) (s : Before) (text : List ℕ) → length text ≤ k → IsDone s text (cutting k s text)
cutting_done zero s [] w = ((refl, refl), refl)
cutting_done zero s (b ∷ bs) w = absurd (omega arith)
cutting_done (suc k) s [] w = ((refl, refl), refl)
cutting_done (suc k) s (b ∷ bs) w = len_done (cutting k) s (b ∷ bs) _ (λ u rest h. cutting_done k u rest (omega arith)) (found_by s.fresh (b ∷ bs) _ (omega arith) refl)

-- what a source has: its tokens, or the number of a rule and a line
abbrev pub Answer : Type 0
Answer = List Token ⊎ (ℕ × ℕ)

abbrev to_answer : List ℕ → List Place → Cutting → Option (Rule × ℕ) → Answer
to_answer text places c None = inl (joined (tokens_from places at_start 0 c.pieces))
to_answer text places c (Some e) = inr (number_of e.0, (place_at places (length text - length c.rest + e.1)).line)

abbrev cutting_of : List ℕ → Cutting
cutting_of text = cutting (length text) at_start text

abbrev pub answer : List ℕ → Answer
answer source = to_answer (bytes_of source) (places_of source) (cutting_of (bytes_of source)) (cutting_of (bytes_of source)).fault

abbrev IsAnswerOf : List ℕ → List Place → Answer → Type 0
IsAnswerOf text places (inl ts) = IsLexed text places ts
IsAnswerOf text places (inr e) = FailsAt text places e.0 e.1

answer_of : (text : List ℕ) (places : List Place) (c : Cutting) (x : Option (Rule × ℕ)) → c.fault ≡ x → IsDone at_start text c → IsAnswerOf text places (to_answer text places c x)
answer_of text places c None q d = record {
  pieces = c.pieces;
  last = c.last;
  cut = subst (IsCut at_start c.pieces text c.last) (subst (IsEnd c.last c.rest) q d.1) d.0;
  tokens = refl;
}
answer_of text places c (Some e) q d = record {
  pieces = c.pieces;
  before = c.last;
  rest = c.rest;
  rule = e.0;
  i = e.1;
  cut = d.0;
  fault = subst (IsEnd c.last c.rest) q d.1;
  numbered = refl;
  line_is = refl;
}

abbrev pub IsAnswer : List ℕ → Answer → Type 0
IsAnswer source x = IsAnswerOf (bytes_of source) (places_of source) x

pub answered : (source : List ℕ) → IsAnswer source (answer source)
answered source = answer_of (bytes_of source) (places_of source) (cutting_of (bytes_of source)) _ refl (cutting_done (length (bytes_of source)) at_start (bytes_of source) (omega arith))

has : (source : List ℕ) (x : Answer) → IsAnswer source x → HasAnswer source
has source (inl ts) a = inl (ts, a)
has source (inr e) a = inr (e.0, e.1, a)

pub an_answer : (source : List ℕ) → HasAnswer source
an_answer source = has source (answer source) (answered source)
