-- The structs of items, and the integers of types.
use Rattle.std.proofs.Common.{◌≡◌, ℕ, zero, suc, ◌+◌, ◌<◌, arith, List, [], ◌∷◌, ◌++◌, length, take, drop, get_or, refl, sym, ap, ◌∙◌, Bool, true, false, if◌then◌else◌, Option, Some, None, bytes_eq, append_assoc, length-append, ◌≤◌, slice_range, ◌-◌}
use Rattle.std.specs.List.{fold, flat_map}
use Rattle.std.proofs.lemmas.List.{take-append-drop, append-nil, drop_more, drop_at, take_at}
use Rattle.std.proofs.lemmas.List.Sums.{fold_more, fold-append}
use Rattle.std.proofs.lemmas.Option.{none-some}
use Rattle.cl_tree.specs.declared.tree.CType.{CType, CType-F, out-CType, map-CType, roll-CType, roll-out-CType, fold_out-CType}
use Rattle.cl_tree.specs.declared.tree.CType.TheOpen as layer
use Rattle.cl_tree.specs.declared.tree.CType.TheVariants.{Array, outs-Array, rolls-Array}
use Rattle.cl_tree.specs.declared.tree.Declaration.{Declaration}
use Rattle.cl_tree.specs.declared.tree.Declarator.{Declarator}
use Rattle.cl_tree.specs.declared.tree.Item.{Item}
use Rattle.cl_tree.specs.declared.tree.Item.TheVariants.{Struct, Variables, Function, Cle}
use Rattle.cl_tree.specs.Words.{Word, entry}
use Rattle.cl_mean.specs.Shape.{Shape, array, Members, Structs, type_shape, shape_of, members_of, times, with_struct, structs_of, struct_known}
use Rattle.rpc_codec.specs.declared.leaves.Leaf.{Leaf}
use Rattle.rpc_codec.specs.Leaves.{behind, leads_to, leaves, member_leaves, spread, spread_step}
use Rattle.rpc_codec.specs.Signature.{if_array}

-- ---- arrays

shape_is : (structs : Structs) (t : CType) → shape_of structs t ≡ type_shape structs (map-CType CType Shape (shape_of structs) (out-CType t))
unfolding shape_of
shape_is structs t = fold_out-CType Shape (type_shape structs) t

spread_is : (t : CType) (kinds : List Leaf) → spread t kinds ≡ spread_step kinds (map-CType CType (List Leaf) (λ e. spread e kinds) (out-CType t))
unfolding spread
spread_is t kinds = fold_out-CType (List Leaf) (spread_step kinds) t

pub shape_of_array : (structs : Structs) (t e : CType) (n : ℕ) (on : Bool) (path : List Word) → t ≡ Array e n → leaves (shape_of structs t) on path ≡ times n (leaves (shape_of structs e) on path)
shape_of_array structs t e n on path is = ap (λ (s : CType). leaves (shape_of structs s) on path) is ∙ ap (λ (s : Shape). leaves s on path) (shape_is structs (Array e n) ∙ ap (λ (x : CType-F CType). type_shape structs (map-CType CType Shape (shape_of structs) x)) (outs-Array e n))

-- the integers of a type if it is an array
pub array_part : (structs : Structs) (t e : CType) (n : ℕ) (on : Bool) (path : List Word) → t ≡ Array e n → if_array (shape_of structs t) on path ≡ leaves (shape_of structs t) on path
array_part structs t e n on path is =
    let made : shape_of structs t ≡ array (shape_of structs e) n = ap (shape_of structs) is ∙ shape_is structs (Array e n) ∙ ap (λ (x : CType-F CType). type_shape structs (map-CType CType Shape (shape_of structs) x)) (outs-Array e n) in
    rw made refl

no_array : (ms : Option Members) (on : Bool) (path : List Word) → if_array (struct_known ms) on path ≡ []
no_array None on path = refl
no_array (Some ms) on path = refl

pub other_part : (structs : Structs) (t : CType) (on : Bool) (path : List Word) → ((e : CType) (n : ℕ) → t ≡ Array e n → ⊥) → if_array (shape_of structs t) on path ≡ []
other_part structs t on path other = ap (λ (s : Shape). if_array s on path) (shape_is structs t) ∙ by (out-CType t) refl
  where
    by : (x : CType-F CType) → out-CType t ≡ x → if_array (type_shape structs (map-CType CType Shape (shape_of structs) x)) on path ≡ []
    by layer.Void q = refl
    by (layer.Integer kind) q = refl
    by (layer.Struct tag) q = no_array (entry structs tag) on path
    by (layer.Array e n) q = absurd (other e n (sym (roll-out-CType t) ∙ ap roll-CType q ∙ rolls-Array e n))
    by (layer.Pointer e) q = refl
    by layer.Floating q = refl

pub spread_of_array : (t e : CType) (n : ℕ) (kinds : List Leaf) → t ≡ Array e n → spread t kinds ≡ times n (spread e kinds)
spread_of_array t e n kinds is = ap (λ (s : CType). spread s kinds) is ∙ spread_is (Array e n) kinds ∙ ap (λ (x : CType-F CType). spread_step kinds (map-CType CType (List Leaf) (λ e. spread e kinds) x)) (outs-Array e n)

pub times_none : (n : ℕ) (xs : List Leaf) → xs ≡ [] → times n xs ≡ []
times_none zero xs e = refl
times_none (suc n) xs e = rw (times_none n xs e, e) refl

one_more : (n : ℕ) (xs : List Leaf) → times n xs ++ xs ≡ times (suc n) xs
one_more zero xs = sym (append-nil xs)
one_more (suc n) xs = append_assoc xs (times n xs) xs ∙ ap (λ (ys : List Leaf). xs ++ ys) (one_more n xs)

pub times_end : (n : ℕ) (xs : List Leaf) → times n xs ++ xs ≡ times (n + 1) xs
times_end n xs = let e : suc n ≡ n + 1 = omega arith in one_more n xs ∙ ap (λ (k : ℕ). times k xs) e

-- the first of the blocks behind a front
pub first_block : (front block : List Leaf) (n : ℕ) → 0 < n → slice_range (front ++ times n block) (length front) (length front + length block) ≡ block
first_block front block zero h = absurd (omega arith)
first_block front block (suc n) h =
    let size : length front + length block - length front ≡ length block = omega arith in
    let behind : drop (length front) (front ++ (block ++ times n block)) ≡ block ++ times n block = drop_at front (block ++ times n block) (length front) refl in
    rw (size, behind) (take_at block (times n block) (length block) refl)

-- one block more behind those that stand there
pub block_added : (whole front block more : List Leaf) (n : ℕ) → whole ≡ front ++ times n block → more ≡ block → whole ++ more ≡ front ++ times (n + 1) block
block_added whole front block more n is same = rw (is, same) (append_assoc front (times n block) block ∙ ap (λ (xs : List Leaf). front ++ xs) (times_end n block))

-- the block that stands first behind the front, by its places
pub block_is : (whole front block : List Leaf) (n a b : ℕ) → whole ≡ front ++ times n block → 0 < n → a ≡ length front → b ≡ length front + length block → slice_range whole a b ≡ block
block_is whole front block n a b is some start end = rw (is, start, end) (first_block front block n some)

pub block_within : (whole front block : List Leaf) (n : ℕ) → whole ≡ front ++ times n block → 0 < n → length front + length block ≤ length whole
block_within whole front block zero is some = absurd (omega arith)
block_within whole front block (suc n) is some = rw is (omega (arith, length-append front (block ++ times n block), length-append block (times n block)))

-- ---- members

-- the integers of some members and then more
pub members_then : (structs : Structs) (on : Bool) (path : List Word) (ds es : List Declarator) → member_leaves (members_of structs (ds ++ es)) on path ≡ member_leaves (members_of structs ds) on path ++ member_leaves (members_of structs es) on path
members_then structs on path [] es = refl
members_then structs on path (d ∷ ds) es = ap (λ (xs : List Leaf). leaves (shape_of structs d.ctype) (leads_to on path d.name) (behind path) ++ xs) (members_then structs on path ds es) ∙ sym (append_assoc (leaves (shape_of structs d.ctype) (leads_to on path d.name) (behind path)) (member_leaves (members_of structs ds) on path) (member_leaves (members_of structs es) on path))

pub declaration_step : (structs : Structs) (on : Bool) (path : List Word) (ds : List Declaration) (i : ℕ) (d : Declaration) → i < length ds → member_leaves (members_of structs (flat_map (λ d. d.names) (drop i ds))) on path ≡ member_leaves (members_of structs (get_or ds i d).names) on path ++ member_leaves (members_of structs (flat_map (λ d. d.names) (drop (i + 1) ds))) on path
declaration_step structs on path ds i d h = ap (λ (es : List Declaration). member_leaves (members_of structs (flat_map (λ d. d.names) es)) on path) (drop_more ds i d h) ∙ members_then structs on path (get_or ds i d).names (flat_map (λ d. d.names) (drop (i + 1) ds))

-- one declaration further
pub members_more : (structs : Structs) (on : Bool) (path : List Word) (ds : List Declaration) (i : ℕ) (d : Declaration) (kinds new whole : List Leaf) → i < length ds → get_or ds i d ≡ d → new ≡ kinds ++ member_leaves (members_of structs d.names) on path → kinds ++ member_leaves (members_of structs (flat_map (λ d. d.names) (drop i ds))) on path ≡ whole → new ++ member_leaves (members_of structs (flat_map (λ d. d.names) (drop (i + 1) ds))) on path ≡ whole
members_more structs on path ds i d kinds new whole h is added before =
    let rest : List Leaf = member_leaves (members_of structs (flat_map (λ d. d.names) (drop (i + 1) ds))) on path in
    ap (λ (xs : List Leaf). xs ++ rest) added ∙ append_assoc kinds (member_leaves (members_of structs d.names) on path) rest
    ∙ ap (λ (e : Declaration). kinds ++ (member_leaves (members_of structs e.names) on path ++ rest)) (sym is)
    ∙ ap (λ (xs : List Leaf). kinds ++ xs) (sym (declaration_step structs on path ds i d h)) ∙ before

-- ---- structs by their tags

structs_more : (items : List Item) (i : ℕ) (d : Item) → i < length items → structs_of (take (i + 1) items) ≡ with_struct (structs_of (take i items)) (get_or items i d)
unfolding structs_of
structs_more items i d h = fold_more with_struct [] items i d h

entry_behind : (structs : Structs) (tag name : Word) (ms : Members) → entry structs tag ≡ None → entry (structs ++ (name, ms) ∷ []) tag ≡ (if bytes_eq name tag then Some ms else None)
entry_behind [] tag name ms e = refl
entry_behind (s ∷ ss) tag name ms e = by (bytes_eq s.0 tag) e (entry_behind ss tag name ms)
  where
    by : (t : Bool) → (if t then Some s.1 else entry ss tag) ≡ None → (entry ss tag ≡ None → entry (ss ++ (name, ms) ∷ []) tag ≡ (if bytes_eq name tag then Some ms else None)) → (if t then Some s.1 else entry (ss ++ (name, ms) ∷ []) tag) ≡ (if bytes_eq name tag then Some ms else None)
    by true q rest = absurd (none-some s.1 (sym q))
    by false q rest = rest q

entry_stays : (structs more : Structs) (tag : Word) (ms : Members) → entry structs tag ≡ Some ms → entry (structs ++ more) tag ≡ Some ms
entry_stays [] more tag ms e = absurd (none-some ms e)
entry_stays (s ∷ ss) more tag ms e = by (bytes_eq s.0 tag) e (entry_stays ss more tag ms)
  where
    by : (t : Bool) → (if t then Some s.1 else entry ss tag) ≡ Some ms → (entry ss tag ≡ Some ms → entry (ss ++ more) tag ≡ Some ms) → (if t then Some s.1 else entry (ss ++ more) tag) ≡ Some ms
    by true q rest = q
    by false q rest = rest q

item_stays : (structs : Structs) (item : Item) (tag : Word) (ms : Members) → entry structs tag ≡ Some ms → entry (with_struct structs item) tag ≡ Some ms
item_stays structs (Struct name members line) tag ms e = entry_stays structs ((name, members_of structs (flat_map (λ d. d.names) members)) ∷ []) tag ms e
item_stays structs (Variables d) tag ms e = e
item_stays structs (Function a b c d f g h i) tag ms e = e
item_stays structs (Cle p line) tag ms e = e

items_stay : (items : List Item) (structs : Structs) (tag : Word) (ms : Members) → entry structs tag ≡ Some ms → entry (fold with_struct structs items) tag ≡ Some ms
items_stay [] structs tag ms e = e
items_stay (item ∷ items) structs tag ms e = items_stay items (with_struct structs item) tag ms (item_stays structs item tag ms e)

-- the first struct of a tag, which is known by the structs before it
pub struct_found : (items : List Item) (i : ℕ) (tag name : Word) (members : List Declaration) (line : ℕ) (d : Item) → i < length items → get_or items i d ≡ Struct name members line → bytes_eq name tag ≡ true → entry (structs_of (take i items)) tag ≡ None → entry (structs_of items) tag ≡ Some (members_of (structs_of (take i items)) (flat_map (λ d. d.names) members))
unfolding structs_of
struct_found items i tag name members line d h is same none =
    let before : Structs = structs_of (take i items) in
    let ms : Members = members_of before (flat_map (λ d. d.names) members) in
    let here : structs_of (take (i + 1) items) ≡ before ++ (name, ms) ∷ [] = structs_more items i d h ∙ ap (with_struct before) is in
    let first : entry (structs_of (take (i + 1) items)) tag ≡ Some ms = ap (λ (s : Structs). entry s tag) here ∙ entry_behind before tag name ms none ∙ ap (λ (t : Bool). if t then Some ms else None) same in
    let whole : structs_of items ≡ fold with_struct (structs_of (take (i + 1) items)) (drop (i + 1) items) = ap (λ (xs : List Item). fold with_struct [] xs) (sym (take-append-drop (i + 1) items)) ∙ fold-append with_struct [] (take (i + 1) items) (drop (i + 1) items) in
    ap (λ (s : Structs). entry s tag) whole ∙ items_stay (drop (i + 1) items) (structs_of (take (i + 1) items)) tag ms first

-- the tag is still not known behind a struct of another one
pub other_struct : (items : List Item) (i : ℕ) (tag name : Word) (members : List Declaration) (line : ℕ) (d : Item) → i < length items → get_or items i d ≡ Struct name members line → bytes_eq name tag ≡ false → entry (structs_of (take i items)) tag ≡ None → entry (structs_of (take (i + 1) items)) tag ≡ None
unfolding structs_of
other_struct items i tag name members line d h is other none =
    let before : Structs = structs_of (take i items) in
    let ms : Members = members_of before (flat_map (λ d. d.names) members) in
    ap (λ (s : Structs). entry s tag) (structs_more items i d h ∙ ap (with_struct before) is) ∙ entry_behind before tag name ms none ∙ ap (λ (t : Bool). if t then Some ms else None) other

-- nor behind an item that is no struct
pub no_struct : (items : List Item) (i : ℕ) (tag : Word) (d : Item) → i < length items → ((name : Word) (members : List Declaration) (line : ℕ) → get_or items i d ≡ Struct name members line → ⊥) → entry (structs_of (take i items)) tag ≡ None → entry (structs_of (take (i + 1) items)) tag ≡ None
no_struct items i tag d h not none = ap (λ (s : Structs). entry s tag) (structs_more items i d h) ∙ by (get_or items i d) refl
  where
    by : (item : Item) → get_or items i d ≡ item → entry (with_struct (structs_of (take i items)) item) tag ≡ None
    by (Struct name members line) q = absurd (not name members line q)
    by (Variables v) q = none
    by (Function a b c d f g h i) q = none
    by (Cle p line) q = none
