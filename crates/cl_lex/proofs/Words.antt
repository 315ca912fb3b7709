-- A piece that is a name.
use Rattle.std.proofs.Common.{◌≡◌, ℕ, ◌<◌, Bool, true, false, ◌&&◌, cond, List, [], ◌∷◌, Some, None, length, get_or, refl, sym, ap, ◌∙◌, arith}
use Rattle.std.specs.List.{list_all}
use Rattle.std.proofs.lemmas.Bool.{cond-false, ne_eqb, false≢true}
use Rattle.std.proofs.lemmas.Bool.Decides.{nat_tests}
use Rattle.cl_tree.specs.declared.pieces.Run.TheVariants.{Letters}
use Rattle.cl_tree.specs.declared.pieces.Opening.TheVariants.{Runs}
use Rattle.cl_tree.specs.Letters.{is_letter, is_word}
use Rattle.cl_tree.specs.Pieces.{first_opening, opening_of, opening_in, opening, go, by_state, runs, shape, is_piece}
use Rattle.cl_lex.proofs.Shapes.{piece_closed}

runs_step : (b : ℕ) (bs : List ℕ) (t : Bool) → is_word b ≡ t → by_state (λ s. runs Letters s bs) false (cond t (Some b) None) ≡ true → (runs Letters b bs ≡ true → list_all is_word bs ≡ true) → (is_word b && list_all is_word bs) ≡ true
runs_step b bs true e h k = rw e (k h)
runs_step b bs false e h k = absurd (false≢true h)

pub runs_words : (a : ℕ) (bs : List ℕ) → runs Letters a bs ≡ true → list_all is_word bs ≡ true
unfolding go
runs_words a [] h = refl
runs_words a (b ∷ bs) h = runs_step b bs (is_word b) refl h (λ r. runs_words b bs r)

first_letter : (b : ℕ) → first_opening b ≡ Runs Letters → is_letter b ≡ true
unfolding first_opening
first_letter b e = grind (arith, nat_tests)

pub opening_letter : (f : Bool) (b c : ℕ) → opening_in f b c ≡ Runs Letters → is_letter b ≡ true
unfolding opening_in opening_of
opening_letter f b c e = let h = first_letter b in grind (arith, nat_tests)

pub letter_word : (b : ℕ) → is_letter b ≡ true → is_word b ≡ true
unfolding is_word
letter_word b e = rw e refl

pub piece_is : (f : Bool) (p : List ℕ) → 0 < length p → is_piece f p ≡ shape (opening f p) p
unfolding is_piece
piece_is f p h = cond-false _ _ _ (ne_eqb (length p) 0 (λ z. absurd (omega arith)))

pub letters_words : (f : Bool) (p : List ℕ) → is_piece f p ≡ true → opening f p ≡ Runs Letters → list_all is_word p ≡ true
unfolding is_piece shape
letters_words f [] e o = absurd (false≢true e)
letters_words f (b ∷ bs) e o =
    let r : runs Letters b bs ≡ true = sym (piece_is f (b ∷ bs) (omega arith) ∙ ap (λ x. shape x (b ∷ bs)) o) ∙ e in
    rw (letter_word b (opening_letter f b (get_or bs 0 0) o)) (runs_words b bs r)

-- what the meaning of a piece takes of its bytes
pub ruleset pieces = (letters_words, piece_closed)
