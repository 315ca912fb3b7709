-- The struct in a type.
use Rattle.std.proofs.Common.{◌≡◌, ℕ, zero, suc, ◌+◌, ◌*◌, ◌<◌, ◌≤◌, arith, List, [], ◌∷◌, ◌++◌, length, take, get_or, refl, sym, ap, ◌∙◌, true, Option, Some, None, bytes_eq, slice_index_or}
use Rattle.std.specs.List.{flat_map}
use Rattle.std.proofs.lemmas.List.{append-nil, take-take, length-take-le}
use Rattle.cl_tree.specs.declared.tree.CType.{CType, CType-F, out-CType, map-CType, roll-CType, roll-out-CType, fold_out-CType}
use Rattle.cl_tree.specs.declared.tree.CType.TheOpen as layer
use Rattle.cl_tree.specs.declared.tree.CType.TheVariants.{Array, Struct, outs-Array, outs-Struct, rolls-Array, rolls-Struct}
use Rattle.cl_tree.specs.declared.tree.Declaration.{Declaration}
use Rattle.cl_tree.specs.declared.tree.Item.{Item}
use Rattle.cl_tree.specs.declared.tree.Item.TheVariants as item
use Rattle.cl_tree.specs.Words.{Word, entry}
use Rattle.cl_mean.specs.Shape.{Shape, nothing, integer, array, Members, Structs, members_of, shape_of, struct_known, structs_of, times, type_shape}
use Rattle.cl_mean.specs.Source.{no_item}
use Rattle.rpc_codec.specs.declared.leaves.Leaf.{Leaf}
use Rattle.rpc_codec.specs.Leaves.{leaves, member_leaves}
use Rattle.rpc_codec.proofs.Structs.{struct_found}
use Rattle.guard_places.specs.declared.inside.Inner.{Inner}
use Rattle.guard_places.specs.Places.{chosen_places}
use Rattle.guard_places.specs.Tables.{IsInner, item_members, members_in, struct_leaves}
use Rattle.guard_places.proofs.Placing.{no_leaves, none_times, times_times}

pub is_none : {A : Type 0} (o : Option A) → ((x : A) → o ≡ Some x → ⊥) → o ≡ None
is_none None not = refl
is_none (Some x) not = absurd (not x refl)

-- ---- the item of a struct

item_at : (items : List Item) (i : ℕ) (d e x : Item) → i < length items → get_or items i d ≡ x → slice_index_or items i e ≡ x
item_at [] i d e x h is = absurd (omega arith)
item_at (y ∷ ys) zero d e x h is = is
item_at (y ∷ ys) (suc i) d e x h is = item_at ys i d e x (omega arith) is

pub struct_here : (items : List Item) (i : ℕ) (tag name : Word) (members : List Declaration) (line : ℕ) (d : Item) → i < length items → get_or items i d ≡ item.Struct name members line
    → bytes_eq name tag ≡ true → entry (structs_of (take i items)) tag ≡ None → entry (structs_of items) tag ≡ Some (item_members items i)
struct_here items i tag name members line d h is same none =
    struct_found items i tag name members line d h is same none
    ∙ ap (λ (x : Item). Some (members_in (structs_of (take i items)) x)) (sym (item_at items i d no_item (item.Struct name members line) h is))

item_before : (items : List Item) (n k : ℕ) (e : Item) → k < length (take n items) → slice_index_or (take n items) k e ≡ slice_index_or items k e
item_before [] zero k e h = refl
item_before [] (suc n) k e h = refl
item_before (x ∷ xs) zero k e h = absurd (omega arith)
item_before (x ∷ xs) (suc n) zero e h = refl
item_before (x ∷ xs) (suc n) (suc k) e h = item_before xs n k e (omega arith)

-- a struct that is known before some item
pub inner_known : (items : List Item) (n k : ℕ) (tag : Word) → n ≤ length items → k < length (take n items) → entry (structs_of (take n items)) tag ≡ Some (item_members (take n items) k)
    → IsInner items (Some (record { item = k; elements = 1 })) (struct_known (entry (structs_of (take n items)) tag))
inner_known items n k tag l h e =
    let within : k ≤ n = omega (arith, length-take-le n items l) in
    let same : item_members (take n items) k ≡ item_members items k =
    ap (λ (x : Item). members_in (structs_of (take k (take n items))) x) (item_before items n k no_item h)
    ∙ ap (λ (before : List Item). members_in (structs_of before) (slice_index_or items k no_item)) (take-take k n items within) in
    λ path. ap (λ (o : Option Members). leaves (struct_known o) true path) e ∙ ap (λ (ms : Members). member_leaves ms true path) same ∙ sym (append-nil (struct_leaves items k path))

pub none_known : (items : List Item) (o : Option Members) → o ≡ None → IsInner items None (struct_known o)
none_known items o e = λ name path at. ap (λ (m : Option Members). chosen_places at (leaves (struct_known m) true (name ∷ path))) e

-- ---- so many of them

pub none_many : (items : List Item) (element : Shape) (size : ℕ) → IsInner items None element → IsInner items None (array element size)
none_many items element size h = λ name path at. none_times size (leaves element true (name ∷ path)) at (λ (k : ℕ). h name path k)

pub some_many : (items : List Item) (element : Shape) (i all : Inner) (size : ℕ) → all.item ≡ i.item → all.elements ≡ size * i.elements → IsInner items (Some i) element → IsInner items (Some all) (array element size)
some_many items element i all size same product h = λ path.
    ap (times size) (h path) ∙ times_times size i.elements (struct_leaves items i.item path)
    ∙ ap (λ (n : ℕ). times n (struct_leaves items i.item path)) (sym product) ∙ ap (λ (k : ℕ). times all.elements (struct_leaves items k path)) (sym same)

-- ---- types

shape_is : (structs : Structs) (t : CType) → shape_of structs t ≡ type_shape structs (map-CType CType Shape (shape_of structs) (out-CType t))
unfolding shape_of
shape_is structs t = fold_out-CType Shape (type_shape structs) t

pub struct_shape : (structs : Structs) (t : CType) (tag : Word) → t ≡ Struct tag → shape_of structs t ≡ struct_known (entry structs tag)
struct_shape structs t tag is = ap (shape_of structs) is ∙ shape_is structs (Struct tag) ∙ ap (λ (x : CType-F CType). type_shape structs (map-CType CType Shape (shape_of structs) x)) (outs-Struct tag)

pub array_shape : (structs : Structs) (t e : CType) (n : ℕ) → t ≡ Array e n → shape_of structs t ≡ array (shape_of structs e) n
array_shape structs t e n is = ap (shape_of structs) is ∙ shape_is structs (Array e n) ∙ ap (λ (x : CType-F CType). type_shape structs (map-CType CType Shape (shape_of structs) x)) (outs-Array e n)

-- a type that is neither a struct nor an array
pub other_shape : (items : List Item) (structs : Structs) (t : CType) → ((tag : Word) → t ≡ Struct tag → ⊥) → ((e : CType) (n : ℕ) → t ≡ Array e n → ⊥) → IsInner items None (shape_of structs t)
other_shape items structs t not_struct not_array = λ name path at.
    ap (λ (s : Shape). chosen_places at (leaves s true (name ∷ path))) (shape_is structs t) ∙ by name path at (out-CType t) refl
  where
    by : (name : Word) (path : List Word) (at : ℕ) (x : CType-F CType) → out-CType t ≡ x → chosen_places at (leaves (type_shape structs (map-CType CType Shape (shape_of structs) x)) true (name ∷ path)) ≡ []
    by name path at layer.Void q = refl
    by name path at (layer.Integer kind) q = refl
    by name path at (layer.Struct tag) q = absurd (not_struct tag (sym (roll-out-CType t) ∙ ap roll-CType q ∙ rolls-Struct tag))
    by name path at (layer.Array e n) q = absurd (not_array e n (sym (roll-out-CType t) ∙ ap roll-CType q ∙ rolls-Array e n))
    by name path at (layer.Pointer e) q = refl
    by name path at layer.Floating q = refl

-- what has no integer has none under a path
pub none_inside : (items : List Item) (s : Shape) → length (leaves s true []) ≡ 0 → IsInner items None s
none_inside items s e = λ name path at. ap (chosen_places at) (no_leaves s true (name ∷ path) e)
