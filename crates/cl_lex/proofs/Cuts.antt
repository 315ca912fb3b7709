-- One text has one list of pieces, and one first failing place.
use Rattle.std.proofs.Common.{◌≡◌, ℕ, ◌+◌, ◌-◌, ◌<◌, ◌≤◌, Bool, true, false, List, [], ◌∷◌, ◌++◌, Option, Some, None, length, take, drop, refl, sym, ap, ◌∙◌, subst, arith, append_assoc, append-nil, length-append, length-take-le, inl, inr}
use Rattle.std.specs.Prelude.{Result, Ok, Err, IfOk, IfErr, MatchResult}
use Rattle.std.proofs.lemmas.Bool.{false≢true}
use Rattle.std.proofs.lemmas.List.{length-drop, drop-drop, take-append-drop, append_cancel_left}
use Rattle.cl_tree.specs.declared.pieces.Rule.{Rule}
use Rattle.cl_tree.specs.declared.pieces.Place.{Place}
use Rattle.cl_tree.specs.declared.pieces.PieceMeaning.{PieceMeaning}
use Rattle.cl_tree.specs.declared.token.Token.{Token}
use Rattle.cl_lex.specs.declared.lex.LexStop.{LexStop}
use Rattle.cl_lex.specs.declared.lex.LexStop.TheVariants as stop
use Rattle.cl_tree.specs.Joins.{bytes_of, places_of}
use Rattle.cl_tree.specs.Letters.{is_bad, is_on_line, is_blank, is_printable, is_newline}
use Rattle.cl_tree.specs.declared.pieces.Closed.{Closed}
use Rattle.cl_tree.specs.declared.pieces.Opening.TheVariants.{Closes}
use Rattle.cl_tree.specs.Pieces.{first_opening, is_piece, opening, opening_in, opening_of}
use Rattle.cl_tree.specs.Tokens.{Before, Definitions, at_start, behind, IsTaken, IsUnclosed, IsNothing, IsStuck, must_close, unfinished, piece_meaning, fresh_after, definitions_after, flaw, flaw_as, IsCut, IsFault, IsLexed, FailsAt, HasOneAnswer, tokens_from, token_as, joined, place_at, number_of}
use Rattle.cl_lex.specs.Found.{before, AreLexed, IsPieceOf, IsFailure, IsHalt, IsStop}
use Rattle.cl_lex.specs.declared.pieces.Halt.{Halt}
use Rattle.cl_lex.specs.declared.pieces.Halt.TheVariants.{Fault}

true_false : (t : Bool) → t ≡ true → t ≡ false → ⊥
true_false t a b = false≢true (sym b ∙ a)

-- a piece is not empty
pub piece_some : (f : Bool) (p : List ℕ) → is_piece f p ≡ true → 0 < length p
unfolding is_piece
piece_some f [] e = absurd (false≢true e)
piece_some f (b ∷ bs) e = omega arith

not_longer : (f : Bool) (p q text : List ℕ) → IsTaken f p text → IsTaken f q text → length p < length q → ⊥
not_longer f p q text a b h = true_false (is_piece f q) b.piece (ap (is_piece f) b.front ∙ a.longest (length q) h b.within)

pub taken_unique : (f : Bool) (p q text : List ℕ) → IsTaken f p text → IsTaken f q text → p ≡ q
taken_unique f p q text a b =
    let e : length p ≡ length q = grind (arith, not_longer f p q text a b, not_longer f q p text b a) in
    a.front ∙ ap (λ n. take n text) e ∙ sym b.front

pub taken_unclosed : (f : Bool) (p text : List ℕ) (k : Closed) → IsTaken f p text → IsUnclosed f text k → ⊥
taken_unclosed f p text k a s = true_false (is_piece f p) a.piece (ap (is_piece f) a.front ∙ s.none (length p) (a.closed (ap must_close s.opens)) a.within)

pub taken_nothing : (f : Bool) (p text : List ℕ) → IsTaken f p text → IsNothing f text → ⊥
taken_nothing f p text a s = true_false (is_piece f p) a.piece (ap (is_piece f) a.front ∙ s.none (length p) (piece_some f p a.piece) a.within)

pub taken_stuck : (f : Bool) (p text : List ℕ) (r : Rule) (i : ℕ) → IsTaken f p text → IsStuck f text r i → ⊥
taken_stuck f p text r i a (inl s) = taken_unclosed f p text s.0 a s.1
taken_stuck f p text r i a (inr s) = taken_nothing f p text a s.0

pair_same : (r q : Rule) (i j : ℕ) (o : Rule × ℕ) → o ≡ (r, i) → o ≡ (q, j) → (r ≡ q) × (i ≡ j)
pair_same r q i j o a b = let e : ◌≡◌ {A = Rule × ℕ} (r, i) (q, j) = sym a ∙ b in (ap (λ (x : Rule × ℕ). x.0) e, ap (λ (x : Rule × ℕ). x.1) e)

same_kind : (k l : Closed) → Closes k ≡ Closes l → l ≡ k
same_kind k l e = cc

pub stuck_unique : (f : Bool) (text : List ℕ) (r q : Rule) (i j : ℕ) → IsStuck f text r i → IsStuck f text q j → (r ≡ q) × (i ≡ j)
stuck_unique f text r q i j (inl a) (inl b) = pair_same r q i j _ (ap (λ k. unfinished k text) (same_kind a.0 b.0 (sym a.1.opens ∙ b.1.opens)) ∙ a.2) b.2
stuck_unique f text r q i j (inl a) (inr b) = absurd (true_false _ (ap must_close a.1.opens) b.0.free)
stuck_unique f text r q i j (inr a) (inl b) = absurd (true_false _ (ap must_close b.1.opens) a.0.free)
stuck_unique f text r q i j (inr a) (inr b) = pair_same r q i j _ a.1 b.1

-- a rest at which no piece without a flaw stands
abbrev IsLast : Before → List ℕ → Type 0
IsLast s rest = (p : List ℕ) → IsTaken s.fresh p rest → flaw s p ≡ None → ⊥

last_empty : (s : Before) → IsLast s []
last_empty s p a e = let h = piece_some s.fresh p a.piece in let w = a.within in omega arith

empty_opens : (f : Bool) → must_close (opening f []) ≡ true → ⊥
unfolding opening_in opening_of first_opening is_bad is_on_line is_blank is_printable is_newline
empty_opens true e = false≢true e
empty_opens false e = false≢true e

empty_stuck : (f : Bool) (r : Rule) (i : ℕ) → IsStuck f [] r i → ⊥
empty_stuck f r i (inl a) = empty_opens f (ap must_close a.1.opens)
empty_stuck f r i (inr a) = let h = a.0.some in omega arith

empty_fault : (s : Before) (r : Rule) (i : ℕ) → IsFault s [] r i → ⊥
empty_fault s r i (inl a) = empty_stuck s.fresh r i a
empty_fault s r i (inr t) = let h = piece_some s.fresh t.0 t.1.piece in let w = t.1.within in omega arith

last_fault : (s : Before) (rest : List ℕ) (r : Rule) (i : ℕ) → IsFault s rest r i → IsLast s rest
last_fault s rest r i (inl a) p t e = taken_stuck s.fresh p rest r i t a
last_fault s rest r i (inr a) p t z = let e : flaw s p ≡ Some (r, i) = ap (flaw s) (taken_unique s.fresh p a.0 rest t a.1) ∙ a.2 in absurd cc

pub record Same (ps qs : List (List ℕ)) (s u : Before) (rest last : List ℕ) : Type 0 where
  pub pieces : ps ≡ qs
  pub known : s ≡ u
  pub rests : rest ≡ last

taken_along : (s u : Before) (p text rest : List ℕ) → s ≡ u → text ≡ rest → IsTaken s.fresh p text → IsTaken u.fresh p rest
taken_along s u p text rest e k t = subst (λ (x : Before). IsTaken x.fresh p rest) e (subst (IsTaken s.fresh p) k t)

pub cut_unique : (s : Before) (ps qs : List (List ℕ)) (text rest last : List ℕ) (g h : Before) → IsCut s ps text g rest → IsCut s qs text h last → IsLast g rest → IsLast h last → Same ps qs g h rest last
cut_unique s [] [] text rest last g h a b m n = record { pieces = refl; known = sym a.0 ∙ b.0; rests = sym a.1 ∙ b.1 }
cut_unique s [] (q ∷ qs) text rest last g h a b m n = absurd (m q (taken_along s g q text rest a.0 a.1 b.0) (ap (λ x. flaw x q) (sym a.0) ∙ b.1))
cut_unique s (p ∷ ps) [] text rest last g h a b m n = absurd (n p (taken_along s h p text last b.0 b.1 a.0) (ap (λ x. flaw x p) (sym b.0) ∙ a.1))
cut_unique s (p ∷ ps) (q ∷ qs) text rest last g h a b m n =
    let e : p ≡ q = taken_unique s.fresh p q text a.0 b.0 in
    let k : a.2 ≡ b.2 = append_cancel_left p a.2 b.2 (sym a.3 ∙ b.3 ∙ ap (λ x. x ++ b.2) (sym e)) in
    let c : IsCut (behind s p) qs a.2 h last = subst (λ x. IsCut (behind s p) qs x h last) (sym k) (subst (λ x. IsCut (behind s x) qs b.2 h last) (sym e) b.4) in
    let r = cut_unique (behind s p) ps qs a.2 rest last g h a.4 c m n in
    record { pieces = λ i. e i ∷ r.pieces i; known = r.known; rests = r.rests }

some_same : (r q : Rule) (i j : ℕ) (o : Option (Rule × ℕ)) → o ≡ Some (r, i) → o ≡ Some (q, j) → (r ≡ q) × (i ≡ j)
some_same r q i j o a b = let e : ◌≡◌ {A = Rule × ℕ} (r, i) (q, j) = cc in (ap (λ (x : Rule × ℕ). x.0) e, ap (λ (x : Rule × ℕ). x.1) e)

fault_unique : (s : Before) (rest : List ℕ) (r q : Rule) (i j : ℕ) → IsFault s rest r i → IsFault s rest q j → (r ≡ q) × (i ≡ j)
fault_unique s rest r q i j (inl a) (inl b) = stuck_unique s.fresh rest r q i j a b
fault_unique s rest r q i j (inl a) (inr b) = absurd (taken_stuck s.fresh b.0 rest r i b.1 a)
fault_unique s rest r q i j (inr a) (inl b) = absurd (taken_stuck s.fresh a.0 rest q j a.1 b)
fault_unique s rest r q i j (inr a) (inr b) = some_same r q i j (flaw s a.0) a.2 (ap (flaw s) (taken_unique s.fresh a.0 b.0 rest a.1 b.1) ∙ b.2)

fault_along : (s u : Before) (a b : List ℕ) (r : Rule) (i : ℕ) → s ≡ u → a ≡ b → IsFault s a r i → IsFault u b r i
fault_along s u a b r i e k h = subst (λ x. IsFault x b r i) e (subst (λ x. IsFault s x r i) k h)

pub tokens_unique : (text : List ℕ) (places : List Place) (ts us : List Token) → IsLexed text places ts → IsLexed text places us → ts ≡ us
tokens_unique text places ts us a b =
    let e = cut_unique at_start a.pieces b.pieces text [] [] a.last b.last a.cut b.cut (last_empty a.last) (last_empty b.last) in
    a.tokens ∙ ap (λ x. joined (tokens_from places at_start 0 x)) e.pieces ∙ sym b.tokens

-- what fails has no tokens
pub tokens_or_fault : (text : List ℕ) (places : List Place) (ts : List Token) (r l : ℕ) → IsLexed text places ts → FailsAt text places r l → ⊥
tokens_or_fault text places ts r l a b =
    let e = cut_unique at_start a.pieces b.pieces text [] b.rest a.last b.before a.cut b.cut (last_empty a.last) (last_fault b.before b.rest b.rule b.i b.fault) in
    empty_fault a.last b.rule b.i (fault_along b.before a.last b.rest [] b.rule b.i (sym e.known) (sym e.rests) b.fault)

pub fails_unique : (text : List ℕ) (places : List Place) (r q l k : ℕ) → FailsAt text places r l → FailsAt text places q k → (r ≡ q) × (l ≡ k)
fails_unique text places r q l k a b =
    let e = cut_unique at_start a.pieces b.pieces text a.rest b.rest a.before b.before a.cut b.cut (last_fault a.before a.rest a.rule a.i a.fault) (last_fault b.before b.rest b.rule b.i b.fault) in
    let f = fault_unique a.before a.rest a.rule b.rule a.i b.i a.fault (fault_along b.before a.before b.rest a.rest b.rule b.i (sym e.known) (sym e.rests) b.fault) in
    (a.numbered ∙ ap number_of f.0 ∙ sym b.numbered, a.line_is ∙ (λ i. (place_at places (length text - length (e.rests i) + f.1 i)).line) ∙ sym b.line_is)

pub one_answer : (source : List ℕ) → HasOneAnswer source
one_answer source = (
  tokens_unique (bytes_of source) (places_of source),
  tokens_or_fault (bytes_of source) (places_of source),
  λ rule line other place. fails_unique (bytes_of source) (places_of source) rule other line place,
)

pub flaw_from : (s : Before) (p : List ℕ) (found : PieceMeaning) (r : Rule) (i : ℕ) → found ≡ piece_meaning s.fresh p → flaw_as s.definitions found ≡ Some (r, i) → flaw s p ≡ Some (r, i)
unfolding flaw
flaw_from s p found r i e f = ap (flaw_as s.definitions) (sym e) ∙ f

-- one piece more
cut_more : (s : Before) (ps : List (List ℕ)) (text rest p after : List ℕ) (g : Before) → IsCut s ps text g rest → IsTaken g.fresh p rest → flaw g p ≡ None → rest ≡ p ++ after → IsCut s (ps ++ p ∷ []) text (behind g p) after
cut_more s [] text rest p after g c t z e = (subst (λ (x : Before). IsTaken x.fresh p text) (sym c.0) (subst (IsTaken g.fresh p) (sym c.1) t), ap (λ x. flaw x p) c.0 ∙ z, after, c.1 ∙ e, (ap (λ x. behind x p) c.0, refl))
cut_more s (q ∷ ps) text rest p after g c t z e = (c.0, c.1, c.2, c.3, cut_more (behind s q) ps c.2 rest p after g c.4 t z e)

cut_shorter : (s : Before) (ps : List (List ℕ)) (text rest : List ℕ) (g : Before) → IsCut s ps text g rest → length rest ≤ length text
cut_shorter s [] text rest g c = omega (arith, ap length c.1)
cut_shorter s (q ∷ ps) text rest g c = let h = cut_shorter (behind s q) ps c.2 rest g c.4 in omega (arith, ap length c.3, length-append q c.2)

tokens_more : (places : List Place) (s : Before) (at : ℕ) (ps : List (List ℕ)) (text rest p : List ℕ) (g : Before) → IsCut s ps text g rest → tokens_from places s at (ps ++ p ∷ []) ≡ tokens_from places s at ps ++ token_as g.definitions (piece_meaning g.fresh p) places (at + (length text - length rest)) (length p)
tokens_more places s at [] text rest p g c =
    let e : at ≡ at + (length text - length rest) = omega (arith, ap length c.1) in
    append-nil (token_as s.definitions (piece_meaning s.fresh p) places at (length p)) ∙ (λ i. token_as (c.0 i).definitions (piece_meaning (c.0 i).fresh p) places (e i) (length p))
tokens_more places s at (q ∷ ps) text rest p g c =
    let u = behind s q in
    let h = cut_shorter u ps c.2 rest g c.4 in
    let here = token_as s.definitions (piece_meaning s.fresh q) places at (length q) in
    let e : at + length q + (length c.2 - length rest) ≡ at + (length text - length rest) = omega (arith, ap length c.3, length-append q c.2) in
    ap (λ x. here ++ x) (tokens_more places u (at + length q) ps c.2 rest p g c.4 ∙ ap (λ n. tokens_from places u (at + length q) ps ++ token_as g.definitions (piece_meaning g.fresh p) places n (length p)) e)
    ∙ sym (append_assoc here (tokens_from places u (at + length q) ps) (token_as g.definitions (piece_meaning g.fresh p) places (at + (length text - length rest)) (length p)))

pub none_yet : (text : List ℕ) (places : List Place) (ts : List Token) (m : Definitions) → ts ≡ [] → ((q : List ℕ) → m q ≡ None) → AreLexed text places ts (before true m) text
unfolding at_start
none_yet text places ts m k e = record { pieces = []; cut = ((λ i. record { fresh = true; definitions = λ q. sym (e q) i }), refl); tokens = k }

behind_is : (s : Before) (p : List ℕ) (fresh : Bool) (found : PieceMeaning) (m : Definitions) → fresh ≡ fresh_after s.fresh p → found ≡ piece_meaning s.fresh p → ((q : List ℕ) → m q ≡ definitions_after s.definitions found q) → behind s p ≡ before fresh m
unfolding behind
behind_is s p fresh found m e r k = λ i. record { fresh = sym e i; definitions = λ q. sym (k q ∙ ap (λ x. definitions_after s.definitions x q) r) i }

-- the loop's step
pub one_more : (text : List ℕ) (places : List Place) (ts us : List Token) (s : Before) (fresh : Bool) (m : Definitions) (at n : ℕ) (found : PieceMeaning) → at ≤ length text → AreLexed text places ts s (drop at text) → IsPieceOf s n fresh found (drop at text) → ((q : List ℕ) → m q ≡ definitions_after s.definitions found q) → us ≡ ts ++ token_as s.definitions found places at n → AreLexed text places us (before fresh m) (drop (at + n) text)
one_more text places ts us s fresh m at n found w a p k e =
    let rest = drop at text in
    let piece = take n rest in
    let l : length piece ≡ n = length-take-le n rest p.within in
    let d : at ≡ 0 + (length text - length rest) = omega (arith, length-drop at text) in
    let here = cut_more at_start a.pieces text rest piece (drop n rest) s a.cut p.taken p.flawless (sym (take-append-drop n rest)) in
    record {
      pieces = a.pieces ++ piece ∷ [];
      cut = subst (IsCut at_start (a.pieces ++ piece ∷ []) text (before fresh m)) (drop-drop n at text) (subst (λ x. IsCut at_start (a.pieces ++ piece ∷ []) text x (drop n rest)) (behind_is s piece fresh found m p.next p.reads k) here);
      tokens = e ∙ (λ i. a.tokens i ++ token_as s.definitions (p.reads i) places (d i) (sym l i)) ∙ sym (tokens_more places at_start 0 a.pieces text rest piece s a.cut);
    }

-- the loop's exit at a fault
pub fails_here : (text : List ℕ) (places : List Place) (ts : List Token) (s : Before) (at i : ℕ) (rule : Rule) (number line : ℕ) → at ≤ length text → AreLexed text places ts s (drop at text) → IsFault s (drop at text) rule i → number ≡ number_of rule → line ≡ (place_at places (at + i)).line → FailsAt text places number line
fails_here text places ts s at i rule number line w a f k e =
    let d : at ≡ length text - length (drop at text) = omega (arith, length-drop at text) in
    record { pieces = a.pieces; before = s; rest = drop at text; rule = rule; i = i; cut = a.cut; fault = f; numbered = k; line_is = e ∙ ap (λ n. (place_at places (n + i)).line) d }

pub all_found : {V : Type 0} (items : V → List Token) (r : Result V LexStop) (text : List ℕ) (places : List Place) → IfOk r (λ v. IsLexed text places (items v)) → IfErr r (λ e. IsFailure text places e) → (ts : List Token) → IsLexed text places ts → MatchResult r (λ v. items v ≡ ts) (λ e. e ≡ stop.NoMemory)
all_found items (Ok v) text places f g ts a = tokens_unique text places (items v) ts f a
all_found items (Err stop.NoMemory) text places f g ts a = refl
all_found items (Err (stop.Rule rule line)) text places f g ts a = absurd (tokens_or_fault text places ts rule line a g)

pub all_fails : {V : Type 0} (items : V → List Token) (r : Result V LexStop) (text : List ℕ) (places : List Place) → IfOk r (λ v. IsLexed text places (items v)) → IfErr r (λ e. IsFailure text places e) → (rule line : ℕ) → FailsAt text places rule line → MatchResult r (λ v. ⊥) (λ e. IsStop rule line e)
all_fails items (Ok v) text places f g rule line a = tokens_or_fault text places (items v) rule line f a
all_fails items (Err stop.NoMemory) text places f g rule line a = tt
all_fails items (Err (stop.Rule r l)) text places f g rule line a = fails_unique text places r rule l line g a

pub fails_by : (text : List ℕ) (places : List Place) (ts : List Token) (s : Before) (at i : ℕ) (rule : Rule) (e : Halt) (number line : ℕ) → at ≤ length text → AreLexed text places ts s (drop at text) → IsHalt s (drop at text) e → e ≡ Fault rule i → number ≡ number_of rule → line ≡ (place_at places (at + i)).line → FailsAt text places number line
fails_by text places ts s at i rule e number line w a h q k l = fails_here text places ts s at i rule number line w a (subst (IsHalt s (drop at text)) q h) k l
