-- A number that is past 64 bits stays past them.
use Rattle.std.proofs.Common.{◌≡◌, ℕ, ◌+◌, ◌*◌, ◌^◌, ◌<◌, ◌≤◌, true, false, cond, ltb, List, [], ◌∷◌, Some, None, refl, ◌∙◌, arith, length, get_or, drop}
use Rattle.std.proofs.lemmas.List.{at_drop_more, at_drop_all}
use Rattle.std.proofs.lemmas.Bool.Decides.{nat_tests}
use Rattle.std.proofs.Math.Nat.{mul-le-mul_left}
use Rattle.cl_tree.specs.Literals.{digit_of, number_from, fitting}

over_here : (v : ℕ) → 2 ^ 64 ≤ v → fitting (Some v) ≡ None
over_here v h = grind (arith, nat_tests)

grows : (v base d : ℕ) → 0 < base → v ≤ v * base + d
grows v base d h = omega (arith, mul-le-mul_left v h)

pub number_over : (base v : ℕ) (bs : List ℕ) → 0 < base → 2 ^ 64 ≤ v → fitting (number_from base v bs) ≡ None
number_over base v [] p h = over_here v h
number_over base v (b ∷ bs) p h =
    let g = grows v base (digit_of b) p in
    let r : fitting (number_from base (v * base + digit_of b) bs) ≡ None = number_over base (v * base + digit_of b) bs p (omega arith) in
    elim (ltb (digit_of b) base) as (λ t. fitting (cond t (number_from base (v * base + digit_of b) bs) None) ≡ None) [ true ↦ r | false ↦ refl ]

pub number_stops : (base v i : ℕ) (xs : List ℕ) → 0 < base → i < length xs → digit_of (get_or xs i 0) < base → 2 ^ 64 ≤ v * base + digit_of (get_or xs i 0) → fitting (number_from base v (drop i xs)) ≡ None
number_stops base v i xs p w d h =
    let r = number_over base (v * base + digit_of (get_or xs i 0)) (drop (i + 1) xs) p h in
    let t : ltb (digit_of (get_or xs i 0)) base ≡ true = grind (arith, nat_tests) in
    at_drop_more (λ ys. fitting (number_from base v ys)) xs i 0 w ∙ rw t r

pub number_ends : (base v i : ℕ) (xs : List ℕ) → length xs ≤ i → v < 2 ^ 64 → fitting (number_from base v (drop i xs)) ≡ Some v
number_ends base v i xs w h =
    let t : ltb v (2 ^ 64) ≡ true = grind (arith, nat_tests) in
    at_drop_all (λ ys. fitting (number_from base v ys)) xs i w ∙ rw t refl
