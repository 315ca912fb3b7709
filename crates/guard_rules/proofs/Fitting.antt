-- Values in the kinds of their places, place by place.
use Rattle.std.proofs.Common.{◌≡◌, ℕ, zero, suc, ◌<◌, ◌≤◌, ℤ, List, [], ◌∷◌, ◌++◌, take, drop, length, slice_index_or, slice_set, refl, ap, arith}
use Rattle.std.proofs.lemmas.List.{take-append-drop}
use Rattle.cl_tree.specs.declared.kinds.IntKind.{IntKind}
use Rattle.cl_tree.specs.Arithmetic.{value}
use Rattle.guard_rules.specs.Guards.{fitted}

-- values that are in their kinds up to a place, and the others
abbrev pub fitted_from : List IntKind → ℕ → List ℤ → List ℤ
fitted_from ks i ns = take i ns ++ fitted (drop i ks) (drop i ns)

pub one_more : (ks : List IntKind) (ns : List ℤ) (i : ℕ) (k : IntKind) (n : ℤ) → i < length ks → i < length ns
    → fitted_from ks (suc i) (slice_set ns i (value (slice_index_or ks i k) (slice_index_or ns i n))) ≡ fitted_from ks i ns
one_more [] ns i k n e f = absurd (omega arith)
one_more (j ∷ ks) [] i k n e f = absurd (omega arith)
one_more (j ∷ ks) (m ∷ ns) zero k n e f = refl
one_more (j ∷ ks) (m ∷ ns) (suc i) k n e f = ap (λ rest. m ∷ rest) (one_more ks ns i k n (omega arith) (omega arith))

no_values : {A : Type 0} (i : ℕ) → take {A = A} i [] ≡ []
no_values zero = refl
no_values (suc i) = refl

none_left : {A : Type 0} (i : ℕ) → drop {A = A} i [] ≡ []
none_left zero = refl
none_left (suc i) = refl

no_fitted : (ks : List IntKind) → fitted ks [] ≡ []
no_fitted [] = refl
no_fitted (k ∷ ks) = refl

pub no_value_left : (ks : List IntKind) (ns : List ℤ) (i : ℕ) → length ns ≤ i → fitted_from ks i ns ≡ ns
no_value_left ks [] i e = rw (no_values {A = ℤ} i, none_left {A = ℤ} i) (no_fitted (drop i ks))
no_value_left ks (n ∷ ns) zero e = absurd (omega arith)
no_value_left [] (n ∷ ns) (suc i) e = ap (λ rest. n ∷ rest) (take-append-drop i ns)
no_value_left (k ∷ ks) (n ∷ ns) (suc i) e = ap (λ rest. n ∷ rest) (no_value_left ks ns i (omega arith))

pub no_kind_left : (ks : List IntKind) (ns : List ℤ) (i : ℕ) → length ks ≤ i → fitted_from ks i ns ≡ ns
no_kind_left [] ns i e = rw (none_left {A = IntKind} i) (take-append-drop i ns)
no_kind_left (k ∷ ks) ns zero e = absurd (omega arith)
no_kind_left (k ∷ ks) [] (suc i) e = no_value_left (k ∷ ks) [] (suc i) (omega arith)
no_kind_left (k ∷ ks) (n ∷ ns) (suc i) e = ap (λ rest. n ∷ rest) (no_kind_left ks ns i (omega arith))
