-- The integers under a path are integers of the shape.
use Rattle.std.proofs.Common.{◌≡◌, ℕ, zero, suc, ◌+◌, ◌≤◌, ◌<◌, arith, List, [], ◌∷◌, ◌++◌, length, length-append, Bool, true, false, bytes_eq, if◌then◌else◌}
use Rattle.cl_tree.specs.Words.{Word}
use Rattle.cl_mean.specs.Shape.{Shape, nothing, integer, struct, array, Members, no_members, member, times, kinds_of, member_kinds, count_of, each_under, chosen, under, under_members}
use Rattle.labelling_laws.proofs.Elements.{Each, each_append}

-- from a place on, so many
abbrev pub Between : ℕ → ℕ → ℕ → Type 0
Between low count at = (low ≤ at) × (at < low + count)

abbrev Within : ℕ → ℕ → List ℕ → Type 0
Within low count xs = Each (Between low count) xs

wider : (low count from many : ℕ) (xs : List ℕ) → from ≤ low → low + count ≤ from + many → Within low count xs → Within from many xs
wider low count from many [] p q h = tt
wider low count from many (x ∷ xs) p q h =
    let a : low ≤ x = h.0.0 in
    let b : x < low + count = h.0.1 in
    ((omega arith, omega arith), wider low count from many xs p q h.1)

each_within : (n : ℕ) {A : Type 0} (xs : List A) (places : ℕ → List ℕ) → ((at : ℕ) → Within at (length xs) (places at)) → (at : ℕ) → Within at (length (times n xs)) (each_under n (length xs) places at)
each_within zero xs places h at = tt
each_within (suc n) xs places h at =
    let e : length (xs ++ times n xs) ≡ length xs + length (times n xs) = length-append xs (times n xs) in
    each_append (Between at (length (times (suc n) xs))) (places at) (each_under n (length xs) places (at + length xs))
    (wider at (length xs) at (length (times (suc n) xs)) (places at) (omega arith) (omega (arith, e)) (h at))
    (wider (at + length xs) (length (times n xs)) at (length (times (suc n) xs)) (each_under n (length xs) places (at + length xs)) (omega arith) (omega (arith, e)) (each_within n xs places h (at + length xs)))

-- the places under a member, where its name is that of the path or not
member_within : (s : Shape) (name : Word) (at count : ℕ) (path : List Word) → ((rest : List Word) → Within at count (under s rest at)) → Within at count (chosen path name (λ rest. under s rest at))
member_within s name at count [] h = h []
member_within s name at count (p ∷ rest) h = by (bytes_eq p name)
  where
    by : (b : Bool) → Within at count (if b then under s rest at else [])
    by true = h rest
    by false = tt

mutual
  pub under_within : (s : Shape) (path : List Word) (at : ℕ) → Within at (count_of s) (under s path at)
  under_within nothing path at = tt
  under_within (integer kind) [] at = ((omega arith, omega arith), tt)
  under_within (integer kind) (name ∷ path) at = tt
  under_within (struct ms) path at = members_within ms path at
  under_within (array element size) path at = each_within size (kinds_of element) (under element path) (under_within element path) at

  members_within : (ms : Members) (path : List Word) (at : ℕ) → Within at (length (member_kinds ms)) (under_members ms path at)
  members_within no_members path at = tt
  members_within (member name s ms) path at =
      let e : length (kinds_of s ++ member_kinds ms) ≡ length (kinds_of s) + length (member_kinds ms) = length-append (kinds_of s) (member_kinds ms) in
      each_append (Between at (length (member_kinds (member name s ms)))) (chosen path name (λ rest. under s rest at)) (under_members ms path (at + count_of s))
      (member_within s name at (length (kinds_of s ++ member_kinds ms)) path
      (λ rest. wider at (count_of s) at (length (kinds_of s ++ member_kinds ms)) (under s rest at) (omega arith) (omega (arith, e)) (under_within s rest at)))
      (wider (at + count_of s) (length (member_kinds ms)) at (length (kinds_of s ++ member_kinds ms)) (under_members ms path (at + count_of s)) (omega arith) (omega (arith, e)) (members_within ms path (at + count_of s)))
