-- Cells of types.
use Rattle.std.proofs.Common.{◌≡◌, ℕ, suc, List, [], ◌∷◌, ◌++◌, length, map, refl, sym, ap, ◌∙◌, true, None, is_some}
use Rattle.std.proofs.lemmas.List.{append-nil}
use Rattle.cl_tree.specs.declared.kinds.IntKind.TheVariants.{I32}
use Rattle.cl_mean.specs.Shape.{Shape, nothing, integer, struct, array, kind_in, count_of}
use Rattle.rpc_codec.specs.declared.leaves.Leaf.{Leaf}
use Rattle.rpc_codec.specs.Leaves.{leaves}
use Rattle.rpc_codec.proofs.Under.{kinds_are}
use Rattle.code_forms.specs.Layout as layout

length_map : {A B : Type 0} (f : A → B) (xs : List A) → length (map f xs) ≡ length xs
length_map f [] = refl
length_map f (x ∷ xs) = ap (λ (n : ℕ). suc n) (length_map f xs)

pub cells_are : (s : Shape) (found : List Leaf) → found ≡ leaves s true [] ++ [] → length found ≡ count_of s
cells_are s found e = ap length (e ∙ append-nil (leaves s true [])) ∙ sym (length_map (λ (l : Leaf). l.kind) (leaves s true [])) ∙ ap length (kinds_are s true [])

pub kind_is : (s : Shape) → layout.integer_in s ≡ None → kind_in s ≡ I32
kind_is nothing e = refl
kind_is (integer kind) e = absurd (cc)
kind_is (struct ms) e = refl
kind_is (array s n) e = refl

pub array_is : (s : Shape) → is_some (layout.elements_in s) ≡ layout.is_array s
array_is nothing = refl
array_is (integer kind) = refl
array_is (struct ms) = refl
array_is (array s n) = refl
