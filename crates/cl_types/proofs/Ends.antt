-- The ends of two lists that are gone through together.
use Rattle.std.proofs.Common.{◌≡◌, ℕ, zero, suc, ◌≤◌, List, [], ◌∷◌, length, drop, refl, arith, nat_eq, false}
use Rattle.std.proofs.lemmas.Bool.Decides.{nat_tests}

pub not_yet : (n : ℕ) → false ≡ nat_eq 0 (suc n)
not_yet n = grind (arith, nat_tests)

pub both_less : (i n : ℕ) → nat_eq i n ≡ nat_eq (suc i) (suc n)
both_less i n = grind (arith, nat_tests)

pub nothing_left : {A : Type 0} (xs : List A) (i : ℕ) → length xs ≤ i → drop i xs ≡ []
nothing_left [] zero h = refl
nothing_left [] (suc i) h = refl
nothing_left (x ∷ xs) zero h = absurd (omega arith)
nothing_left (x ∷ xs) (suc i) h = nothing_left xs i (omega arith)
