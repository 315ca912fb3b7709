-- What the scans find is the piece that stands at the start.
use Rattle.std.proofs.Common.{◌≡◌, ℕ, suc, zero, ◌+◌, ◌<◌, ◌≤◌, Bool, true, false, List, [], ◌∷◌, Option, Some, None, length, take, refl, sym, ap, ◌∙◌, arith, length-take-le}
use Rattle.std.proofs.lemmas.List.{get_or-take}
use Rattle.std.proofs.lemmas.Bool.{cond-false, ne_eqb, false≢true}
use Rattle.std.proofs.lemmas.Bool.Decides.{nat_tests}
use Rattle.cl_tree.specs.declared.pieces.Run.{Run}
use Rattle.cl_tree.specs.declared.pieces.Run.TheVariants.{Letters, Digits, Line, Directive}
use Rattle.cl_tree.specs.declared.pieces.Closed.{Closed}
use Rattle.cl_tree.specs.declared.pieces.Closed.TheVariants.{Comment, Quoted, Letter}
use Rattle.cl_tree.specs.declared.pieces.Opening.{Opening}
use Rattle.cl_tree.specs.declared.pieces.Opening.TheVariants.{Runs, Closes, Space, Punct, Other}
use Rattle.cl_tree.specs.declared.pieces.Next.{Next}
use Rattle.cl_tree.specs.declared.pieces.Next.TheVariants.{More, Shut, Broken}
use Rattle.cl_tree.specs.Letters.{is_bad, is_word, is_digit, is_newline, is_on_line, is_printable}
use Rattle.cl_tree.specs.Pieces.{first_opening, go, by_state, runs, step, by_next, closes, opening_in, opening_of, opening, shape, is_piece}
use Rattle.cl_tree.specs.Tokens.{must_close}
use Rattle.cl_lex.specs.Scans.{span, closing}

-- a run: its span is one, and no longer front is
runs_span_step : (r : Run) (s b : ℕ) (bs : List ℕ) (x : Option ℕ) → go r s b ≡ x → ((t : ℕ) → runs r t (take (span r t bs) bs) ≡ true) → runs r s (take (by_state (λ t. suc (span r t bs)) 0 x) (b ∷ bs)) ≡ true
runs_span_step r s b bs (Some t) e h = rw e (h t)
runs_span_step r s b bs None e h = refl

pub runs_span : (r : Run) (s : ℕ) (xs : List ℕ) → runs r s (take (span r s xs) xs) ≡ true
runs_span r s [] = refl
runs_span r s (b ∷ bs) = runs_span_step r s b bs (go r s b) refl (λ t. runs_span r t bs)

runs_beyond_step : (r : Run) (s b : ℕ) (bs : List ℕ) (x : Option ℕ) → go r s b ≡ x → ((t m : ℕ) → span r t bs < m → m ≤ length bs → runs r t (take m bs) ≡ false) → (m : ℕ) → by_state (λ t. suc (span r t bs)) 0 x < suc m → suc m ≤ length (b ∷ bs) → runs r s (take (suc m) (b ∷ bs)) ≡ false
runs_beyond_step r s b bs (Some t) e h m l w = rw e (h t m (omega arith) (omega arith))
runs_beyond_step r s b bs None e h m l w = rw e refl

pub runs_beyond : (r : Run) (s : ℕ) (xs : List ℕ) (m : ℕ) → span r s xs < m → m ≤ length xs → runs r s (take m xs) ≡ false
runs_beyond r s xs zero l w = absurd (omega arith)
runs_beyond r s [] (suc m) l w = absurd (omega arith)
runs_beyond r s (b ∷ bs) (suc m) l w = runs_beyond_step r s b bs (go r s b) refl (λ t. runs_beyond r t bs) m l w

span_within_step : (r : Run) (b : ℕ) (bs : List ℕ) (x : Option ℕ) → ((t : ℕ) → span r t bs ≤ length bs) → by_state (λ t. suc (span r t bs)) 0 x ≤ length (b ∷ bs)
span_within_step r b bs (Some t) h = let k = h t in omega arith
span_within_step r b bs None h = omega arith

pub span_within : (r : Run) (s : ℕ) (xs : List ℕ) → span r s xs ≤ length xs
span_within r s [] = omega arith
span_within r s (b ∷ bs) = span_within_step r b bs (go r s b) (λ t. span_within r t bs)

-- a close: what is found is the one front that closes
pub record Shuts (k : Closed) (s : Bool) (xs : List ℕ) (i n : ℕ) : Type 0 where
  pub j : ℕ
  pub count : n ≡ i + j
  pub some : 0 < j
  pub within : j ≤ length xs
  pub closed : closes k s (take j xs) ≡ true
  pub longest : (m : ℕ) → j < m → m ≤ length xs → closes k s (take m xs) ≡ false

nonempty_false : (k : Closed) (s : Bool) (b m : ℕ) (bs : List ℕ) → step k s b ≡ Shut → 1 < m → m ≤ length (b ∷ bs) → closes k s (take m (b ∷ bs)) ≡ false
nonempty_false k s b zero bs e l w = absurd (omega arith)
nonempty_false k s b (suc zero) bs e l w = absurd (omega arith)
nonempty_false k s b (suc (suc m)) [] e l w = absurd (omega arith)
nonempty_false k s b (suc (suc m)) (c ∷ bs) e l w = rw e (ne_eqb (suc (length (take m bs))) 0 (λ z. absurd (omega arith)))

longer_more : (k : Closed) (s t : Bool) (b j m : ℕ) (bs : List ℕ) → step k s b ≡ More t → ((m : ℕ) → j < m → m ≤ length bs → closes k t (take m bs) ≡ false) → suc j < m → m ≤ length (b ∷ bs) → closes k s (take m (b ∷ bs)) ≡ false
longer_more k s t b j zero bs e h l w = absurd (omega arith)
longer_more k s t b j (suc m) bs e h l w = rw e (h m (omega arith) (omega arith))

shuts_step : (k : Closed) (i : ℕ) (s : Bool) (b : ℕ) (bs : List ℕ) (n : ℕ) (x : Next) → step k s b ≡ x → ((t : Bool) → closing k (i + 1) t bs ≡ Some n → Shuts k t bs (i + 1) n) → by_next (λ t. closing k (i + 1) t bs) (Some (i + 1)) None x ≡ Some n → Shuts k s (b ∷ bs) i n
shuts_step k i s b bs n (More t) e h q = let r = h t q in record {
  j = suc r.j;
  count = omega (arith, r.count);
  some = omega arith;
  within = omega (arith, r.within);
  closed = rw e r.closed;
  longest = λ m l w. longer_more k s t b r.j m bs e r.longest l w;
}
shuts_step k i s b bs n Shut e h q = record {
  j = 1;
  count = let z : i + 1 ≡ n = cc in omega arith;
  some = omega arith;
  within = omega arith;
  closed = rw e refl;
  longest = λ m l w. nonempty_false k s b m bs e l w;
}
shuts_step k i s b bs n Broken e h q = absurd cc

pub shuts : (k : Closed) (i : ℕ) (s : Bool) (xs : List ℕ) (n : ℕ) → closing k i s xs ≡ Some n → Shuts k s xs i n
shuts k i s [] n q = absurd cc
shuts k i s (b ∷ bs) n q = shuts_step k i s b bs n (step k s b) refl (λ t r. shuts k (i + 1) t bs n r) q

-- nothing is found: no front closes
open_step : (k : Closed) (i : ℕ) (s : Bool) (b : ℕ) (bs : List ℕ) (x : Next) → step k s b ≡ x → ((t : Bool) → closing k (i + 1) t bs ≡ None → (m : ℕ) → m ≤ length bs → closes k t (take m bs) ≡ false) → by_next (λ t. closing k (i + 1) t bs) (Some (i + 1)) None x ≡ None → (m : ℕ) → m ≤ length (b ∷ bs) → closes k s (take m (b ∷ bs)) ≡ false
open_step k i s b bs x e h q zero w = refl
open_step k i s b bs (More t) e h q (suc m) w = rw e (h t q m (omega arith))
open_step k i s b bs Shut e h q (suc m) w = absurd cc
open_step k i s b bs Broken e h q (suc m) w = rw e refl

pub stays_open : (k : Closed) (i : ℕ) (s : Bool) (xs : List ℕ) → closing k i s xs ≡ None → (m : ℕ) → m ≤ length xs → closes k s (take m xs) ≡ false
stays_open k i s [] q zero w = refl
stays_open k i s [] q (suc m) w = refl
stays_open k i s (b ∷ bs) q m w = open_step k i s b bs (step k s b) refl (λ t r. stays_open k (i + 1) t bs r) q m w

-- fronts of two bytes and more open as the text does
pub opening_take : (f : Bool) (m : ℕ) (text : List ℕ) → 1 < m → opening f (take m text) ≡ opening f text
opening_take f m text h = let z : 0 < m = omega arith in rw (get_or-take m text 0 0, get_or-take m text 1 0) refl

pub is_piece_at : (f : Bool) (m : ℕ) (text : List ℕ) → 0 < m → m ≤ length text → opening f (take m text) ≡ opening f text → is_piece f (take m text) ≡ shape (opening f text) (take m text)
unfolding is_piece
is_piece_at f m text p w e =
    let l : length (take m text) ≡ m = length-take-le m text w in
    let ne : length (take m text) ≡ 0 → ⊥ = λ z. absurd (omega arith) in
    cond-false _ _ _ (ne_eqb (length (take m text)) 0 ne) ∙ ap (λ o. shape o (take m text)) e

-- what the first two bytes say
first_other : (b : ℕ) → first_opening b ≡ Other → is_bad b ≡ true
unfolding first_opening
first_other b o = grind (arith, nat_tests)

module _ (f : Bool) (b c : ℕ) where
  letters_alone : opening_in f b c ≡ Runs Letters → go Letters b c ≡ None → opening_in f b 0 ≡ Runs Letters
  unfolding opening_in opening_of is_digit
  letters_alone o g = grind (arith, nat_tests)

  digits_alone : opening_in f b c ≡ Runs Digits → go Digits b c ≡ None → opening_in f b 0 ≡ Runs Digits
  unfolding opening_in opening_of go is_word is_digit
  digits_alone o g = grind (arith, nat_tests)

  no_line : first_opening b ≡ Runs Line → ⊥
  unfolding first_opening
  no_line o = grind (arith, nat_tests)

  line_alone : opening_in f b c ≡ Runs Line → go Line b c ≡ None → opening_in f b 0 ≡ Runs Line
  unfolding opening_in opening_of go is_digit is_newline
  line_alone o g = let h = no_line in grind (arith, nat_tests)

  no_directive : first_opening b ≡ Runs Directive → ⊥
  unfolding first_opening
  no_directive o = grind (arith, nat_tests)

  directive_alone : opening_in f b c ≡ Runs Directive → opening_in f b 0 ≡ Runs Directive
  unfolding opening_in opening_of is_digit
  directive_alone o = let h = no_directive in grind (arith, nat_tests)

  pub directive_line : opening_in f b c ≡ Runs Directive → is_newline b ≡ false
  unfolding opening_in opening_of is_digit is_newline
  directive_line o = let h = no_directive in grind (arith, nat_tests)

  pub runs_alone : (r : Run) → opening_in f b c ≡ Runs r → go r b c ≡ None → opening_in f b 0 ≡ Runs r
  runs_alone Letters o g = letters_alone o g
  runs_alone Digits o g = digits_alone o g
  runs_alone Line o g = line_alone o g
  runs_alone Directive o g = directive_alone o

  pub space_alone : opening_in f b c ≡ Space → opening_in f b 0 ≡ Space
  unfolding opening_in opening_of is_digit
  space_alone o = grind (arith, nat_tests)

  pub punct_alone : opening_in f b c ≡ Punct → opening_in f b 0 ≡ Punct
  unfolding opening_in opening_of is_digit
  punct_alone o = grind (arith, nat_tests)

  pub punct_good : opening_in f b c ≡ Punct → is_bad b ≡ false
  unfolding opening_in opening_of first_opening is_digit
  punct_good o = grind (arith, nat_tests)

  pub other_bad : opening_in f b c ≡ Other → is_bad b ≡ true
  unfolding opening_in opening_of
  other_bad o = let h = first_other b in grind (arith, nat_tests)

  pub bad_other : is_bad b ≡ true → opening_in f b c ≡ Other
  unfolding opening_in opening_of first_opening is_bad is_on_line is_printable
  bad_other o = grind (arith, nat_tests)

  pub comment_star : opening_in f b c ≡ Closes Comment → c ≡ 42
  unfolding opening_in opening_of first_opening
  comment_star o = grind (arith, nat_tests)

-- what has to be closed is longer than the one byte that it begins with
one_byte_open : (o : Opening) (b : ℕ) → must_close o ≡ true → shape o (b ∷ []) ≡ false
unfolding shape
one_byte_open (Closes Comment) b e = refl
one_byte_open (Closes Quoted) b e = refl
one_byte_open (Closes Letter) b e = refl
one_byte_open (Runs r) b e = absurd (false≢true e)
one_byte_open Space b e = absurd (false≢true e)
one_byte_open Punct b e = absurd (false≢true e)
one_byte_open Other b e = absurd (false≢true e)

pub piece_closed : (f : Bool) (p : List ℕ) → is_piece f p ≡ true → must_close (opening f p) ≡ true → 2 ≤ length p
unfolding is_piece
piece_closed f [] e c = absurd (false≢true e)
piece_closed f (b ∷ []) e c = absurd (false≢true (sym (one_byte_open (opening f (b ∷ [])) b c) ∙ e))
piece_closed f (b ∷ d ∷ bs) e c = omega arith
