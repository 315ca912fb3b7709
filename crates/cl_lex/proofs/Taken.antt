-- What `piece_len` finds is the piece that stands at the start of a text, or shows that none does.
use Rattle.std.proofs.Common.{◌≡◌, ℕ, suc, zero, ◌+◌, ◌-◌, ◌<◌, ◌≤◌, Bool, true, false, ◌&&◌, cond, leb, List, [], ◌∷◌, Option, Some, None, length, get_or, take, drop, refl, sym, ap, ◌∙◌, subst, arith, length-take-le, ⊎_elim, inr}
use Rattle.std.proofs.lemmas.List.{drop-take, length-drop}
use Rattle.std.proofs.lemmas.Bool.{false≢true, ne_eqb}
use Rattle.std.proofs.lemmas.Bool.Decides.{nat_tests}
use Rattle.std.specs.Prelude.{◌⊎◌}
use Rattle.cl_tree.specs.declared.pieces.Run.{Run}
use Rattle.cl_tree.specs.declared.pieces.Closed.{Closed}
use Rattle.cl_tree.specs.declared.pieces.Closed.TheVariants.{Comment, Quoted, Letter}
use Rattle.cl_tree.specs.declared.pieces.Opening.{Opening}
use Rattle.cl_tree.specs.declared.pieces.Opening.TheVariants.{Runs, Closes, Space, Punct, Other}
use Rattle.cl_tree.specs.declared.pieces.Rule.TheVariants.{E02, E03}
use Rattle.cl_tree.specs.Letters.{is_bad}
use Rattle.cl_tree.specs.Pieces.{go, by_state, runs, closes, opening_in, opening, opening_len, mark, has, shape, is_piece}
use Rattle.cl_lex.specs.Scans.{span, closing, longest_mark}
use Rattle.cl_tree.specs.Tokens.{IsTaken, IsStuck, IsUnclosed, IsNothing, strange, NoneBeyond, must_close}
use Rattle.cl_lex.proofs.Shapes.{runs_span, runs_beyond, span_within, shuts, stays_open, opening_take, is_piece_at, runs_alone, space_alone, punct_alone, punct_good, other_bad, comment_star, bad_other}
use Rattle.cl_lex.proofs.Marks.{more_bytes}

-- to be taken: n bytes that are a piece, and no longer front is
taken_of : (f : Bool) (n : ℕ) (text : List ℕ) → n ≤ length text → is_piece f (take n text) ≡ true → NoneBeyond f n text → (must_close (opening f text) ≡ true → 1 < n) → IsTaken f (take n text) text
taken_of f n text w p l c =
    let e : length (take n text) ≡ n = length-take-le n text w in
    record {
      within = omega arith;
      front = ap (λ k. take k text) (sym e);
      piece = p;
      longest = λ m a b. l m (omega arith) b;
      closed = λ q. let h = c q in omega arith;
    }

-- fronts of two bytes and more
piece_from_two : (f : Bool) (m : ℕ) (text : List ℕ) (o : Opening) → 1 < m → m ≤ length text → opening f text ≡ o → is_piece f (take m text) ≡ shape o (take m text)
piece_from_two f m text o h w e = is_piece_at f m text (omega arith) w (opening_take f m text h) ∙ ap (λ x. shape x (take m text)) e

-- the front of one byte
piece_of_one : (f : Bool) (text : List ℕ) (o : Opening) → 0 < length text → opening_in f (get_or text 0 0) 0 ≡ o → is_piece f (take 1 text) ≡ shape o (take 1 text)
unfolding is_piece
piece_of_one f [] o h e = absurd (omega arith)
piece_of_one f (b ∷ bs) o h e = ap (λ x. shape x (b ∷ [])) e

-- runs
pub shape_run : (r : Run) (b : ℕ) (bs : List ℕ) (m : ℕ) → shape (Runs r) (take (suc m) (b ∷ bs)) ≡ runs r b (take m bs)
unfolding shape
shape_run r b bs m = refl

span_zero : (x : Option ℕ) (g : ℕ → ℕ) → by_state (λ t. suc (g t)) 0 x ≡ 0 → x ≡ None
span_zero (Some t) g e = absurd (omega arith)
span_zero None g e = refl

run_piece_step : (f : Bool) (r : Run) (b : ℕ) (bs : List ℕ) (n : ℕ) → opening f (b ∷ bs) ≡ Runs r → span r b bs ≡ n → is_piece f (take (suc n) (b ∷ bs)) ≡ true
run_piece_step f r b [] (suc n) o e = absurd (omega arith)
run_piece_step f r b [] zero o e = piece_of_one f (b ∷ []) (Runs r) (omega arith) o ∙ shape_run r b [] 0
run_piece_step f r b (c ∷ bs) zero o e = piece_of_one f (b ∷ c ∷ bs) (Runs r) (omega arith) (runs_alone f b c r o (span_zero (go r b c) (λ t. span r t bs) e)) ∙ shape_run r b (c ∷ bs) 0
run_piece_step f r b (c ∷ bs) (suc n) o e = piece_from_two f (suc (suc n)) (b ∷ c ∷ bs) (Runs r) (omega arith) (let w = span_within r b (c ∷ bs) in omega arith) o ∙ shape_run r b (c ∷ bs) (suc n) ∙ ap (λ k. runs r b (take k (c ∷ bs))) (sym e) ∙ runs_span r b (c ∷ bs)

run_beyond_step : (f : Bool) (r : Run) (b : ℕ) (bs : List ℕ) → opening f (b ∷ bs) ≡ Runs r → NoneBeyond f (suc (span r b bs)) (b ∷ bs)
run_beyond_step f r b bs o zero l w = absurd (omega arith)
run_beyond_step f r b bs o (suc m) l w = piece_from_two f (suc m) (b ∷ bs) (Runs r) (omega arith) w o ∙ shape_run r b bs m ∙ runs_beyond r b bs m (omega arith) (omega arith)

no_close : (o x : Opening) → o ≡ x → must_close x ≡ false → must_close o ≡ true → ⊥
no_close o x e f t = false≢true (sym (ap must_close e ∙ f) ∙ t)

pub run_taken : (f : Bool) (r : Run) (text : List ℕ) (n : ℕ) → 0 < length text → opening f text ≡ Runs r → n ≡ 1 + span r (get_or text 0 0) (drop 1 text) → IsTaken f (take n text) text
run_taken f r [] n h o e = absurd (omega arith)
run_taken f r (b ∷ bs) n h o e =
    let s : suc (span r b bs) ≡ n = omega arith in
    let w = span_within r b bs in
    subst (λ k. IsTaken f (take k (b ∷ bs)) (b ∷ bs)) s
    (taken_of f (suc (span r b bs)) (b ∷ bs) (omega arith) (run_piece_step f r b bs (span r b bs) o refl) (run_beyond_step f r b bs o) (λ q. absurd (no_close _ _ o refl q)))

pub run_within : (f : Bool) (r : Run) (text : List ℕ) → 0 < length text → opening f text ≡ Runs r → 1 + span r (get_or text 0 0) (drop 1 text) ≤ length text
run_within f r [] h o = absurd (omega arith)
run_within f r (b ∷ bs) h o = let w = span_within r b bs in omega arith

-- what closes
shape_close : (k : Closed) (xs : List ℕ) → shape (Closes k) xs ≡ closes k false (drop (opening_len k) xs)
unfolding shape
shape_close k xs = refl

some_opening : (k : Closed) → 1 ≤ opening_len k
some_opening Comment = omega arith
some_opening Quoted = omega arith
some_opening Letter = omega arith

at_most_two : (k : Closed) → opening_len k ≤ 2
at_most_two Comment = omega arith
at_most_two Quoted = omega arith
at_most_two Letter = omega arith

close_piece : (f : Bool) (k : Closed) (text : List ℕ) (j : ℕ) → 1 < opening_len k + j → opening_len k + j ≤ length text → opening f text ≡ Closes k → is_piece f (take (opening_len k + j) text) ≡ closes k false (take j (drop (opening_len k) text))
close_piece f k text j h w o = piece_from_two f (opening_len k + j) text (Closes k) h w o ∙ shape_close k (take (opening_len k + j) text) ∙ ap (closes k false) (drop-take (opening_len k) j text)

close_piece_at : (f : Bool) (k : Closed) (text : List ℕ) (m : ℕ) → 1 < m → m ≤ length text → opening f text ≡ Closes k → is_piece f (take m text) ≡ closes k false (take (m - opening_len k) (drop (opening_len k) text))
close_piece_at f k text m h w o =
    let two = at_most_two k in
    let e : opening_len k + (m - opening_len k) ≡ m = omega arith in
    subst (λ n. is_piece f (take n text) ≡ closes k false (take (m - opening_len k) (drop (opening_len k) text))) e (close_piece f k text (m - opening_len k) (omega arith) (omega arith) o)

not_star : (c : ℕ) → c ≡ 0 → c ≡ 42 → ⊥
not_star c a b = omega arith

pub opening_within : (f : Bool) (k : Closed) (text : List ℕ) → 0 < length text → opening f text ≡ Closes k → opening_len k ≤ length text
opening_within f Quoted text h o = omega arith
opening_within f Letter text h o = omega arith
opening_within f Comment [] h o = absurd (omega arith)
opening_within f Comment (b ∷ []) h o = absurd (not_star 0 refl (comment_star f b 0 o))
opening_within f Comment (b ∷ c ∷ bs) h o = omega arith

pub close_taken : (f : Bool) (k : Closed) (text : List ℕ) (n : ℕ) → 0 < length text → opening f text ≡ Closes k → closing k (opening_len k) false (drop (opening_len k) text) ≡ Some n → IsTaken f (take n text) text × (0 < n) × (n ≤ length text)
close_taken f k text n h o e =
    let l = opening_within f k text h o in
    let s = shuts k (opening_len k) false (drop (opening_len k) text) n e in
    let one = some_opening k in
    let two = at_most_two k in
    let d : length (drop (opening_len k) text) ≡ length text - opening_len k = length-drop (opening_len k) text in
    let c : n ≡ opening_len k + s.j = s.count in
    let p : 0 < s.j = s.some in
    let w : s.j ≤ length (drop (opening_len k) text) = s.within in
    let piece : is_piece f (take (opening_len k + s.j) text) ≡ true = close_piece f k text s.j (omega arith) (omega arith) o ∙ s.closed in
    (taken_of f n text (omega arith) (ap (λ m. is_piece f (take m text)) c ∙ piece) (λ m a b. close_piece_at f k text m (omega arith) b o ∙ s.longest (m - opening_len k) (omega arith) (omega arith)) (λ q. omega arith), omega arith, omega arith)

pub close_stuck : (f : Bool) (k : Closed) (text : List ℕ) → 0 < length text → opening f text ≡ Closes k → closing k (opening_len k) false (drop (opening_len k) text) ≡ None → IsUnclosed f text k
close_stuck f k text h o e = record {
  opens = o;
  none = λ m a b.
      let l = opening_within f k text h o in
      let d : length (drop (opening_len k) text) ≡ length text - opening_len k = length-drop (opening_len k) text in
      close_piece_at f k text m a b o ∙ stays_open k (opening_len k) false (drop (opening_len k) text) e (m - opening_len k) (omega arith);
}

-- a space is one byte
space_shape : (m : ℕ) (text : List ℕ) → m ≤ length text → 1 < m → shape Space (take m text) ≡ false
unfolding shape
space_shape m text w h = let l : length (take m text) ≡ m = length-take-le m text w in ne_eqb (length (take m text)) 1 (λ z. absurd (omega arith))

space_one : (text : List ℕ) → 0 < length text → shape Space (take 1 text) ≡ true
unfolding shape
space_one [] h = absurd (omega arith)
space_one (b ∷ bs) h = refl

pub space_taken : (f : Bool) (text : List ℕ) → 0 < length text → opening f text ≡ Space → IsTaken f (take 1 text) text
space_taken f text h o = taken_of f 1 text (omega arith) (piece_of_one f text Space h (space_alone f _ _ o) ∙ space_one text h) (λ m a b. piece_from_two f m text Space a b o ∙ space_shape m text b a) (λ q. absurd (no_close _ _ o refl q))

-- punctuators: none is longer than 3
-- the first of 3, 2 and 1 that passes
abbrev pick : ℕ → Bool → Bool → Bool → ℕ
pick l t3 t2 t1 = cond (leb 3 l && t3) 3 (cond (leb 2 l && t2) 2 (cond (leb 1 l && t1) 1 0))

beyond3 : (l : ℕ) (t3 t2 t1 : Bool) → pick l t3 t2 t1 < 3 → 3 ≤ l → t3 ≡ false
beyond3 l t3 t2 t1 h w = grind (arith, nat_tests)

beyond2 : (l : ℕ) (t3 t2 t1 : Bool) → pick l t3 t2 t1 < 2 → 2 ≤ l → t2 ≡ false
beyond2 l t3 t2 t1 h w = grind (arith, nat_tests)

beyond1 : (l : ℕ) (t3 t2 t1 : Bool) → pick l t3 t2 t1 < 1 → 1 ≤ l → t1 ≡ false
beyond1 l t3 t2 t1 h w = grind (arith, nat_tests)

picked : (l n : ℕ) (t3 t2 t1 : Bool) → pick l t3 t2 t1 ≡ n → 0 < n → (n ≤ l) × (((n ≡ 3) × (t3 ≡ true)) ⊎ (((n ≡ 2) × (t2 ≡ true)) ⊎ ((n ≡ 1) × (t1 ≡ true))))
picked l n t3 t2 t1 e p = grind (arith, nat_tests)

marks_beyond : (text : List ℕ) (m : ℕ) → longest_mark text < m → m ≤ length text → has (mark (take m text)) ≡ false
unfolding longest_mark
marks_beyond text zero h w = absurd (omega arith)
marks_beyond text (suc zero) h w = beyond1 (length text) (has (mark (take 3 text))) (has (mark (take 2 text))) (has (mark (take 1 text))) h w
marks_beyond text (suc (suc zero)) h w = beyond2 (length text) (has (mark (take 3 text))) (has (mark (take 2 text))) (has (mark (take 1 text))) h w
marks_beyond text (suc (suc (suc zero))) h w = beyond3 (length text) (has (mark (take 3 text))) (has (mark (take 2 text))) (has (mark (take 1 text))) h w
marks_beyond text (suc (suc (suc (suc m)))) h w = let l : length (take (suc (suc (suc (suc m)))) text) ≡ suc (suc (suc (suc m))) = length-take-le _ text w in ap has (more_bytes (take (suc (suc (suc (suc m)))) text) (omega arith))

mark_found : (text : List ℕ) (n : ℕ) → longest_mark text ≡ n → 0 < n → (n ≤ length text) × (has (mark (take n text)) ≡ true)
unfolding longest_mark
mark_found text n e p =
    let r = picked (length text) n (has (mark (take 3 text))) (has (mark (take 2 text))) (has (mark (take 1 text))) e p in
    (r.0, ⊎_elim (λ a. ap (λ k. has (mark (take k text))) a.0 ∙ a.1) (λ q. ⊎_elim (λ a. ap (λ k. has (mark (take k text))) a.0 ∙ a.1) (λ a. ap (λ k. has (mark (take k text))) a.0 ∙ a.1) q) r.1)

punct_shape : (xs : List ℕ) → shape Punct xs ≡ has (mark xs)
unfolding shape
punct_shape xs = refl

punct_piece : (f : Bool) (text : List ℕ) (m : ℕ) → 0 < m → m ≤ length text → opening f text ≡ Punct → is_piece f (take m text) ≡ has (mark (take m text))
punct_piece f text zero h w o = absurd (omega arith)
punct_piece f text (suc zero) h w o = piece_of_one f text Punct (omega arith) (punct_alone f _ _ o) ∙ punct_shape (take 1 text)
punct_piece f text (suc (suc m)) h w o = piece_from_two f (suc (suc m)) text Punct (omega arith) w o ∙ punct_shape (take (suc (suc m)) text)

pub punct_taken : (f : Bool) (text : List ℕ) (n : ℕ) → opening f text ≡ Punct → longest_mark text ≡ n → 0 < n → IsTaken f (take n text) text × (n ≤ length text)
punct_taken f text n o e p =
    let found = mark_found text n e p in
    (taken_of f n text found.0 (punct_piece f text n p found.0 o ∙ found.1) (λ m a b. punct_piece f text m (omega arith) b o ∙ marks_beyond text m (omega arith) b) (λ q. absurd (no_close _ _ o refl q)), found.0)

-- a byte that is not allowed is strange, and one that begins no punctuator
strange_bad : (text : List ℕ) → is_bad (get_or text 0 0) ≡ true → strange text ≡ (E02, 0)
unfolding strange
strange_bad text e = rw e refl

strange_good : (text : List ℕ) → is_bad (get_or text 0 0) ≡ false → strange text ≡ (E03, 0)
unfolding strange
strange_good text e = rw e refl

pub punct_none : (f : Bool) (text : List ℕ) → 0 < length text → opening f text ≡ Punct → longest_mark text ≡ 0 → IsNothing f text
punct_none f text h o e = record { some = h; free = ap must_close o; none = λ m a b. punct_piece f text m a b o ∙ marks_beyond text m (omega arith) b }

pub punct_stuck : (f : Bool) (text : List ℕ) → 0 < length text → opening f text ≡ Punct → longest_mark text ≡ 0 → IsStuck f text E03 0
punct_stuck f text h o e = inr (punct_none f text h o e, strange_good text (punct_good f _ _ o))

-- no piece begins with a byte that is not allowed
other_shape : (xs : List ℕ) → shape Other xs ≡ false
unfolding shape
other_shape xs = refl

other_piece : (f : Bool) (text : List ℕ) (m : ℕ) → 0 < m → m ≤ length text → opening f text ≡ Other → is_piece f (take m text) ≡ false
other_piece f text zero h w o = absurd (omega arith)
other_piece f text (suc zero) h w o = piece_of_one f text Other (omega arith) (bad_other f _ _ (other_bad f _ _ o)) ∙ other_shape (take 1 text)
other_piece f text (suc (suc m)) h w o = piece_from_two f (suc (suc m)) text Other (omega arith) w o ∙ other_shape (take (suc (suc m)) text)

pub other_none : (f : Bool) (text : List ℕ) → 0 < length text → opening f text ≡ Other → IsNothing f text
other_none f text h o = record { some = h; free = ap must_close o; none = λ m a b. other_piece f text m a b o }

pub other_stuck : (f : Bool) (text : List ℕ) → 0 < length text → opening f text ≡ Other → IsStuck f text E02 0
other_stuck f text h o = inr (other_none f text h o, strange_bad text (other_bad f _ _ o))
