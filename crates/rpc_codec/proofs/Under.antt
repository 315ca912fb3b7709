-- The integers of a shape with those under a path, by the definitions of kinds and of places under a path.
use Rattle.std.proofs.Common.{◌≡◌, ℕ, zero, suc, ◌+◌, arith, List, [], ◌∷◌, ◌++◌, length, map, refl, sym, ap, ◌∙◌, Bool, true, false, if◌then◌else◌, bytes_eq}
use Rattle.cl_tree.specs.declared.kinds.IntKind.{IntKind}
use Rattle.cl_tree.specs.Words.{Word}
use Rattle.cl_mean.specs.Shape.{Shape, nothing, integer, struct, array, Members, no_members, member, times, kinds_of, member_kinds, count_of, each_under, chosen, under, under_members}
use Rattle.rpc_codec.specs.declared.leaves.Leaf.{Leaf}
use Rattle.rpc_codec.specs.Leaves.{behind, chosen_from, leads_to, leaves, member_leaves}

-- ---- kinds

abbrev kinds_in : List Leaf → List IntKind
kinds_in = map (λ l. l.kind)

kinds_then : (xs ys : List Leaf) → kinds_in (xs ++ ys) ≡ kinds_in xs ++ kinds_in ys
kinds_then [] ys = refl
kinds_then (x ∷ xs) ys = ap (λ (ks : List IntKind). x.kind ∷ ks) (kinds_then xs ys)

kinds_times : (n : ℕ) (xs : List Leaf) → kinds_in (times n xs) ≡ times n (kinds_in xs)
kinds_times zero xs = refl
kinds_times (suc n) xs = kinds_then xs (times n xs) ∙ ap (λ (ks : List IntKind). kinds_in xs ++ ks) (kinds_times n xs)

mutual
  pub kinds_are : (s : Shape) (on : Bool) (path : List Word) → kinds_in (leaves s on path) ≡ kinds_of s
  kinds_are nothing on path = refl
  kinds_are (integer kind) on path = refl
  kinds_are (struct ms) on path = members_are ms on path
  kinds_are (array element size) on path = kinds_times size (leaves element on path) ∙ ap (times size) (kinds_are element on path)

  members_are : (ms : Members) (on : Bool) (path : List Word) → kinds_in (member_leaves ms on path) ≡ member_kinds ms
  members_are no_members on path = refl
  members_are (member name s ms) on path =
      kinds_then (leaves s (leads_to on path name) (behind path)) (member_leaves ms on path)
      ∙ ap (λ (ks : List IntKind). ks ++ kinds_in (member_leaves ms on path)) (kinds_are s (leads_to on path name) (behind path))
      ∙ ap (λ (ks : List IntKind). kinds_of s ++ ks) (members_are ms on path)

length_kinds : (xs : List Leaf) → length (kinds_in xs) ≡ length xs
length_kinds [] = refl
length_kinds (x ∷ xs) = ap (λ (n : ℕ). suc n) (length_kinds xs)

count_is : (s : Shape) (on : Bool) (path : List Word) → length (leaves s on path) ≡ count_of s
count_is s on path = sym (length_kinds (leaves s on path)) ∙ ap length (kinds_are s on path)

-- ---- places

chosen_then : (xs ys : List Leaf) (at : ℕ) → chosen_from at (xs ++ ys) ≡ chosen_from at xs ++ chosen_from (at + length xs) ys
chosen_then [] ys at = ap (λ (n : ℕ). chosen_from n ys) (omega arith)
chosen_then (x ∷ xs) ys at = by x.chosen (chosen_then xs ys (suc at)) (omega arith)
  where
    by : (c : Bool) → chosen_from (suc at) (xs ++ ys) ≡ chosen_from (suc at) xs ++ chosen_from (suc at + length xs) ys → suc at + length xs ≡ at + suc (length xs) → (if c then at ∷ chosen_from (suc at) (xs ++ ys) else chosen_from (suc at) (xs ++ ys)) ≡ (if c then at ∷ chosen_from (suc at) xs else chosen_from (suc at) xs) ++ chosen_from (at + suc (length xs)) ys
    by true rest e = ap (λ (ps : List ℕ). at ∷ ps) rest ∙ ap (λ (n : ℕ). at ∷ (chosen_from (suc at) xs ++ chosen_from n ys)) e
    by false rest e = rest ∙ ap (λ (n : ℕ). chosen_from (suc at) xs ++ chosen_from n ys) e

none_times : (n : ℕ) (xs : List Leaf) (at : ℕ) → ((k : ℕ) → chosen_from k xs ≡ []) → chosen_from at (times n xs) ≡ []
none_times zero xs at none = refl
none_times (suc n) xs at none = chosen_then xs (times n xs) at ∙ rw (none at, none_times n xs (at + length xs) none) refl

each_times : (n stride : ℕ) (xs : List Leaf) (places : ℕ → List ℕ) (at : ℕ) → length xs ≡ stride → ((k : ℕ) → chosen_from k xs ≡ places k) → chosen_from at (times n xs) ≡ each_under n stride places at
each_times zero stride xs places at long same = refl
each_times (suc n) stride xs places at long same =
    chosen_then xs (times n xs) at ∙ ap (λ (ps : List ℕ). ps ++ chosen_from (at + length xs) (times n xs)) (same at)
    ∙ ap (λ (k : ℕ). places at ++ chosen_from (at + k) (times n xs)) long
    ∙ ap (λ (ps : List ℕ). places at ++ ps) (each_times n stride xs places (at + stride) long same)

leads_nowhere : (path : List Word) (name : Word) → leads_to false path name ≡ false
leads_nowhere [] name = refl
leads_nowhere (p ∷ path) name = refl

-- a path that leads elsewhere has no integer under it
mutual
  elsewhere : (s : Shape) (path : List Word) (at : ℕ) → chosen_from at (leaves s false path) ≡ []
  elsewhere nothing path at = refl
  elsewhere (integer kind) path at = refl
  elsewhere (struct ms) path at = members_elsewhere ms path at
  elsewhere (array element size) path at = none_times size (leaves element false path) at (elsewhere element path)

  members_elsewhere : (ms : Members) (path : List Word) (at : ℕ) → chosen_from at (member_leaves ms false path) ≡ []
  members_elsewhere no_members path at = refl
  members_elsewhere (member name s ms) path at =
      chosen_then (leaves s (leads_to false path name) (behind path)) (member_leaves ms false path) at
      ∙ ap (λ (on : Bool). chosen_from at (leaves s on (behind path)) ++ chosen_from (at + length (leaves s (leads_to false path name) (behind path))) (member_leaves ms false path)) (leads_nowhere path name)
      ∙ rw (elsewhere s (behind path) at) (members_elsewhere ms path (at + length (leaves s (leads_to false path name) (behind path))))

by_name : (b : Bool) (s : Shape) (path : List Word) (at : ℕ) → chosen_from at (leaves s true path) ≡ under s path at → chosen_from at (leaves s false path) ≡ [] → chosen_from at (leaves s b path) ≡ (if b then under s path at else [])
by_name true s path at inside outside = inside
by_name false s path at inside outside = outside

-- the places of a member and of those behind it
member_step : (name : Word) (s : Shape) (ms : Members) (path : List Word) (at : ℕ) → chosen_from at (leaves s (leads_to true path name) (behind path)) ≡ chosen path name (λ rest. under s rest at)
    → chosen_from (at + count_of s) (member_leaves ms true path) ≡ under_members ms path (at + count_of s)
    → chosen_from at (member_leaves (member name s ms) true path) ≡ under_members (member name s ms) path at
member_step name s ms path at first rest =
    chosen_then (leaves s (leads_to true path name) (behind path)) (member_leaves ms true path) at
    ∙ ap (λ (n : ℕ). chosen_from at (leaves s (leads_to true path name) (behind path)) ++ chosen_from (at + n) (member_leaves ms true path)) (count_is s (leads_to true path name) (behind path))
    ∙ ap (λ (ps : List ℕ). chosen_from at (leaves s (leads_to true path name) (behind path)) ++ ps) rest
    ∙ ap (λ (ps : List ℕ). ps ++ under_members ms path (at + count_of s)) first

-- the integers under a path stand at its places
mutual
  pub places_are : (s : Shape) (path : List Word) (at : ℕ) → chosen_from at (leaves s true path) ≡ under s path at
  places_are nothing path at = refl
  places_are (integer kind) [] at = refl
  places_are (integer kind) (p ∷ path) at = refl
  places_are (struct ms) path at = member_places ms path at
  places_are (array element size) path at = each_times size (count_of element) (leaves element true path) (under element path) at (count_is element true path) (places_are element path)

  member_places : (ms : Members) (path : List Word) (at : ℕ) → chosen_from at (member_leaves ms true path) ≡ under_members ms path at
  member_places no_members path at = refl
  member_places (member name s ms) [] at = member_step name s ms [] at (places_are s [] at) (member_places ms [] (at + count_of s))
  member_places (member name s ms) (p ∷ path) at =
      member_step name s ms (p ∷ path) at (by_name (bytes_eq p name) s path at (places_are s path at) (elsewhere s path at)) (member_places ms (p ∷ path) (at + count_of s))
