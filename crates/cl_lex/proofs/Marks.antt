-- Texts of one, two and three bytes, and longer ones, which are no punctuators.
use Rattle.std.proofs.Common.{◌≡◌, ℕ, ◌<◌, ◌≤◌, Bool, true, false, ◌&&◌, leb, List, [], ◌∷◌, None, length, get_or, map, refl, ap, arith}
use Rattle.std.specs.Prelude.{bytes_eq}
use Rattle.std.proofs.lemmas.Bool.Decides.{nat_tests}
use Rattle.std.proofs.lemmas.Slice.Eq.{bytes_eq-Decides}
use Rattle.cl_tree.specs.Words.{Word, entry}
use Rattle.cl_tree.specs.declared.token.Mark.{Mark}
use Rattle.cl_tree.specs.declared.token.TheConstants.{MARKS}
use Rattle.cl_tree.specs.Pieces.{mark}

pub no_bytes : (xs : List ℕ) → length xs < 1 → mark xs ≡ None
unfolding mark
no_bytes [] h = refl
no_bytes (a ∷ xs) h = absurd (omega arith)

pub one_byte : (xs : List ℕ) → 1 ≤ length xs → length xs < 2 → mark xs ≡ mark (get_or xs 0 0 ∷ [])
one_byte [] h w = absurd (omega arith)
one_byte (a ∷ []) h w = refl
one_byte (a ∷ b ∷ xs) h w = absurd (omega arith)

pub two_bytes : (xs : List ℕ) → 2 ≤ length xs → length xs < 3 → mark xs ≡ mark (get_or xs 0 0 ∷ get_or xs 1 0 ∷ [])
two_bytes [] h w = absurd (omega arith)
two_bytes (a ∷ []) h w = absurd (omega arith)
two_bytes (a ∷ b ∷ []) h w = refl
two_bytes (a ∷ b ∷ c ∷ xs) h w = absurd (omega arith)

pub three_bytes : (xs : List ℕ) → 3 ≤ length xs → length xs < 4 → mark xs ≡ mark (get_or xs 0 0 ∷ get_or xs 1 0 ∷ get_or xs 2 0 ∷ [])
three_bytes [] h w = absurd (omega arith)
three_bytes (a ∷ []) h w = absurd (omega arith)
three_bytes (a ∷ b ∷ []) h w = absurd (omega arith)
three_bytes (a ∷ b ∷ c ∷ []) h w = refl
three_bytes (a ∷ b ∷ c ∷ d ∷ xs) h w = absurd (omega arith)

-- a table has nothing under a word that is longer than its words
abbrev are_short : {A : Type 0} → List (Word × A) → Bool
are_short [] = true
are_short (row ∷ rows) = leb (length row.0) 3 && are_short rows

other_length : (a b : List ℕ) (t : Bool) → bytes_eq a b ≡ t → length a < length b → t ≡ false
other_length a b true e h = let q : a ≡ b = (bytes_eq-Decides a b).0 e in let l : length a ≡ length b = ap length q in absurd (omega arith)
other_length a b false e h = refl

no_entry : {A : Type 0} (rows : List (Word × A)) (xs : List ℕ) → are_short rows ≡ true → 3 < length xs → entry rows xs ≡ None
no_entry [] xs s h = refl
no_entry (row ∷ rows) xs s h =
    let short : length row.0 ≤ 3 = grind (arith, nat_tests) in
    let rest : are_short rows ≡ true = grind (arith, nat_tests) in
    rw (other_length row.0 xs (bytes_eq row.0 xs) refl (omega arith)) (no_entry rows xs rest h)

abbrev rows : List (Word × Mark)
rows = map (λ row. (row.0.now, row.1)) MARKS

pub more_bytes : (xs : List ℕ) → 3 < length xs → mark xs ≡ None
unfolding mark
more_bytes xs h = no_entry rows xs refl h

pub ruleset whole_texts = (no_bytes, one_byte, two_bytes, three_bytes, more_bytes)
