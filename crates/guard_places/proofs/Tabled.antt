-- Tables of members.
use Rattle.std.proofs.Common.{◌≡◌, ℕ, ◌+◌, ◌<◌, ◌≤◌, arith, List, [], ◌∷◌, ◌++◌, length, take, get_or, refl, sym, ap, subst, ◌∙◌, Bool, true, false, cond, Option, Some, None, bytes_eq, rules, append_assoc, length-append, codes, slice_get}
use Rattle.std.specs.BTreeMap.{get_by_text}
use Rattle.std.specs.List.{flat_map}
use Rattle.std.specs.Map.{update}
use Rattle.std.proofs.lemmas.List.{append-nil, take_all, take_more}
use Rattle.std.proofs.lemmas.List.Concat.{flat_map-append}
use Rattle.std.proofs.lemmas.Slice.Eq.{bytes_eq-Decides}
use Rattle.cl_tree.specs.declared.tree.CType.{CType}
use Rattle.cl_tree.specs.declared.tree.CType.TheVariants.{Array}
use Rattle.cl_tree.specs.declared.tree.Declaration.{Declaration}
use Rattle.cl_tree.specs.declared.tree.Declarator.{Declarator}
use Rattle.cl_tree.specs.declared.tree.Item.{Item}
use Rattle.cl_tree.specs.declared.tree.Item.TheVariants.{Struct}
use Rattle.cl_tree.specs.Words.{Word}
use Rattle.cl_mean.specs.declared.checked.Checked.{Checked}
use Rattle.cl_mean.specs.Source.{no_item}
use Rattle.cl_mean.specs.Shape.{Shape, Structs, members_of, shape_of, structs_of, times}
use Rattle.rpc_codec.specs.declared.leaves.Leaf.{Leaf}
use Rattle.rpc_codec.specs.Leaves.{behind, leads_to, leaves, member_leaves}
use Rattle.rpc_codec.specs.Signature.{Signature, array_leaves, if_array, signature_leaves, signature_of}
use Rattle.rpc_codec.proofs.Structs.{array_part, members_then, other_part}
use Rattle.guard_places.specs.declared.inside.Inner.{Inner}
use Rattle.guard_places.specs.declared.places.Place.{Place}
use Rattle.guard_places.specs.declared.table.Member.{Member}
use Rattle.guard_places.specs.declared.table.Table.{Table}
use Rattle.guard_places.specs.declared.tables.Owner.TheVariants as owner
use Rattle.guard_places.specs.Places.{chosen_places}
use Rattle.guard_places.specs.Tables.{inner_places, IsInner, IsTable, member_places, members_in, owner_leaves, struct_leaves}
use Rattle.guard_places.proofs.Placing.{chosen_then, elsewhere, same_count}
use Rattle.guard_places.proofs.Signatures.{item_is, payload_is}

pub same_table : (items : List Item) (t : Table) (f g : List Word → List Leaf) → ((path : List Word) → f path ≡ g path) → IsTable items t f → IsTable items t g
same_table items t f g same is = record {
  each = λ name path at. ap (chosen_places at) (sym (same (name ∷ path))) ∙ is.each name path at;
  count = λ path. ap length (sym (same path)) ∙ is.count path;
}

swap : (a b : Word) → bytes_eq a b ≡ bytes_eq b a
swap a b = search (rules, bytes_eq-Decides)

-- ---- one member more

inner_is : (items : List Item) (i : Option Inner) (s : Shape) (name : Word) (path : List Word) (at : ℕ) → IsInner items i s → chosen_places at (leaves s true (name ∷ path)) ≡ inner_places items i (name ∷ path) at
inner_is items None s name path at h = h name path at
inner_is items (Some i) s name path at h = ap (chosen_places at) (h (name ∷ path))

member_is : (items : List Item) (m : Member) (s : Shape) (path : List Word) (at : ℕ) → m.leaves.items ≡ leaves s true [] → IsInner items m.inner s → chosen_places (at + m.at) (leaves s true path) ≡ member_places items (Some m) path at
member_is items m s [] at all inside = ap (chosen_places (at + m.at)) (sym all)
member_is items m s (name ∷ path) at all inside = inner_is items m.inner s name path (at + m.at) inside

pub table_added : (items : List Item) (old new : Table) (front : List Word → List Leaf) (s : Shape) (name : Word) (m : Member) → IsTable items old front
    → get_by_text old.members name ≡ None → ((q : Word) → get_by_text new.members q ≡ update bytes_eq (get_by_text old.members) name (Some m) q)
    → new.count ≡ old.count + length m.leaves.items → m.at ≡ old.count → m.leaves.items ≡ leaves s true [] → IsInner items m.inner s
    → IsTable items new (λ path. front path ++ leaves s (leads_to true path name) (behind path))
table_added items old new front s name m is none put total start all inside = record {
  each = λ q path at. chosen_then (front (q ∷ path)) (leaves s (bytes_eq q name) path) at ∙ by q path at (bytes_eq q name) refl;
  count = λ path. length-append (front path) (leaves s (leads_to true path name) (behind path)) ∙ ap (λ (n : ℕ). n + length (leaves s (leads_to true path name) (behind path))) (is.count path)
      ∙ ap (λ (n : ℕ). old.count + n) (same_count s (leads_to true path name) (behind path) ∙ ap length (sym all)) ∙ sym total;
}
  where
    by : (q : Word) (path : List Word) (at : ℕ) (b : Bool) → bytes_eq q name ≡ b
        → chosen_places at (front (q ∷ path)) ++ chosen_places (at + length (front (q ∷ path))) (leaves s b path) ≡ member_places items (get_by_text new.members q) path at
    by q path at true e =
        let same : q ≡ name = (bytes_eq-Decides q name).0 e in
        let before : get_by_text old.members q ≡ None = ap (get_by_text old.members) same ∙ none in
        let nothing : chosen_places at (front (q ∷ path)) ≡ [] = is.each q path at ∙ ap (λ (o : Option Member). member_places items o path at) before in
        let here : at + length (front (q ∷ path)) ≡ at + m.at = ap (λ (n : ℕ). at + n) (is.count (q ∷ path) ∙ sym start) in
        let found : get_by_text new.members q ≡ Some m = put q ∙ ap (λ (c : Bool). cond c (Some m) (get_by_text old.members q)) (swap name q ∙ e) in
        ap (λ (ps : List Place). ps ++ chosen_places (at + length (front (q ∷ path))) (leaves s true path)) nothing
        ∙ ap (λ (n : ℕ). chosen_places n (leaves s true path)) here ∙ member_is items m s path at all inside
        ∙ ap (λ (o : Option Member). member_places items o path at) (sym found)
    by q path at false e =
        let other : get_by_text new.members q ≡ get_by_text old.members q = put q ∙ ap (λ (c : Bool). cond c (Some m) (get_by_text old.members q)) (swap name q ∙ e) in
        ap (λ (ps : List Place). chosen_places at (front (q ∷ path)) ++ ps) (elsewhere s path (at + length (front (q ∷ path)))) ∙ append-nil (chosen_places at (front (q ∷ path)))
        ∙ is.each q path at ∙ ap (λ (o : Option Member). member_places items o path at) (sym other)

-- ---- members one after the other

abbrev pub Leaves : Type 0
Leaves = List Word → List Leaf

pub nothing_more : (items : List Item) (t : Table) (front : Leaves) → IsTable items t front → IsTable items t (λ path. front path ++ [])
nothing_more items t front = same_table items t front (λ path. front path ++ []) (λ path. sym (append-nil (front path)))

pub members_step : (items : List Item) (t : Table) (front : Leaves) (structs : Structs) (ds : List Declarator) (i : ℕ) (d : Declarator) → i < length ds → get_or ds i d ≡ d
    → IsTable items t (λ path. (front path ++ member_leaves (members_of structs (take i ds)) true path) ++ leaves (shape_of structs d.ctype) (leads_to true path d.name) (behind path))
    → IsTable items t (λ path. front path ++ member_leaves (members_of structs (take (i + 1) ds)) true path)
members_step items t front structs ds i d h is = same_table items t
    (λ path. (front path ++ member_leaves (members_of structs (take i ds)) true path) ++ leaves (shape_of structs d.ctype) (leads_to true path d.name) (behind path))
    (λ path. front path ++ member_leaves (members_of structs (take (i + 1) ds)) true path)
    (λ path. append_assoc (front path) (member_leaves (members_of structs (take i ds)) true path) (leaves (shape_of structs d.ctype) (leads_to true path d.name) (behind path))
    ∙ ap (λ (xs : List Leaf). front path ++ xs) (sym (behind_those path)))
  where
    behind_those : (path : List Word) → member_leaves (members_of structs (take (i + 1) ds)) true path ≡ member_leaves (members_of structs (take i ds)) true path ++ leaves (shape_of structs d.ctype) (leads_to true path d.name) (behind path)
    behind_those path =
        ap (λ (es : List Declarator). member_leaves (members_of structs es) true path) (take_more ds i d h ∙ ap (λ (e : Declarator). take i ds ++ e ∷ []) is)
        ∙ members_then structs true path (take i ds) (d ∷ [])
        ∙ ap (λ (xs : List Leaf). member_leaves (members_of structs (take i ds)) true path ++ xs) (append-nil (leaves (shape_of structs d.ctype) (leads_to true path d.name) (behind path)))

pub declarations_step : (items : List Item) (t : Table) (front : Leaves) (structs : Structs) (ds : List Declaration) (i : ℕ) (d : Declaration) → i < length ds → get_or ds i d ≡ d
    → IsTable items t (λ path. (front path ++ member_leaves (members_of structs (flat_map (λ d. d.names) (take i ds))) true path) ++ member_leaves (members_of structs d.names) true path)
    → IsTable items t (λ path. front path ++ member_leaves (members_of structs (flat_map (λ d. d.names) (take (i + 1) ds))) true path)
declarations_step items t front structs ds i d h is = same_table items t
    (λ path. (front path ++ member_leaves (members_of structs (flat_map (λ d. d.names) (take i ds))) true path) ++ member_leaves (members_of structs d.names) true path)
    (λ path. front path ++ member_leaves (members_of structs (flat_map (λ d. d.names) (take (i + 1) ds))) true path)
    (λ path. append_assoc (front path) (member_leaves (members_of structs (flat_map (λ d. d.names) (take i ds))) true path) (member_leaves (members_of structs d.names) true path)
    ∙ ap (λ (xs : List Leaf). front path ++ xs) (sym (behind_those path)))
  where
    behind_those : (path : List Word) → member_leaves (members_of structs (flat_map (λ d. d.names) (take (i + 1) ds))) true path ≡ member_leaves (members_of structs (flat_map (λ d. d.names) (take i ds))) true path ++ member_leaves (members_of structs d.names) true path
    behind_those path =
        ap (λ (es : List Declaration). member_leaves (members_of structs (flat_map (λ d. d.names) es)) true path) (take_more ds i d h ∙ ap (λ (e : Declaration). take i ds ++ e ∷ []) is)
        ∙ ap (λ (es : List Declarator). member_leaves (members_of structs es) true path) (flat_map-append (λ (e : Declaration). e.names) (take i ds) (d ∷ []) ∙ ap (λ (es : List Declarator). flat_map (λ d. d.names) (take i ds) ++ es) (append-nil d.names))
        ∙ members_then structs true path (flat_map (λ d. d.names) (take i ds)) d.names

arrays_then : (structs : Structs) (path : List Word) (ds es : List Declarator) → array_leaves structs (ds ++ es) path ≡ array_leaves structs ds path ++ array_leaves structs es path
arrays_then structs path [] es = refl
arrays_then structs path (d ∷ ds) es =
    ap (λ (xs : List Leaf). if_array (shape_of structs d.ctype) (leads_to true path d.name) (behind path) ++ xs) (arrays_then structs path ds es)
    ∙ sym (append_assoc (if_array (shape_of structs d.ctype) (leads_to true path d.name) (behind path)) (array_leaves structs ds path) (array_leaves structs es path))

pub arrays_step : (items : List Item) (t : Table) (front : Leaves) (structs : Structs) (ds : List Declarator) (i : ℕ) (d : Declarator) → i < length ds → get_or ds i d ≡ d
    → IsTable items t (λ path. (front path ++ array_leaves structs (take i ds) path) ++ if_array (shape_of structs d.ctype) (leads_to true path d.name) (behind path))
    → IsTable items t (λ path. front path ++ array_leaves structs (take (i + 1) ds) path)
arrays_step items t front structs ds i d h is = same_table items t
    (λ path. (front path ++ array_leaves structs (take i ds) path) ++ if_array (shape_of structs d.ctype) (leads_to true path d.name) (behind path))
    (λ path. front path ++ array_leaves structs (take (i + 1) ds) path)
    (λ path. append_assoc (front path) (array_leaves structs (take i ds) path) (if_array (shape_of structs d.ctype) (leads_to true path d.name) (behind path))
    ∙ ap (λ (xs : List Leaf). front path ++ xs) (sym (behind_those path)))
  where
    behind_those : (path : List Word) → array_leaves structs (take (i + 1) ds) path ≡ array_leaves structs (take i ds) path ++ if_array (shape_of structs d.ctype) (leads_to true path d.name) (behind path)
    behind_those path =
        ap (λ (es : List Declarator). array_leaves structs es path) (take_more ds i d h ∙ ap (λ (e : Declarator). take i ds ++ e ∷ []) is)
        ∙ arrays_then structs path (take i ds) (d ∷ [])
        ∙ ap (λ (xs : List Leaf). array_leaves structs (take i ds) path ++ xs) (append-nil (if_array (shape_of structs d.ctype) (leads_to true path d.name) (behind path)))

-- ---- a parameter of a reply

pub none_added : (items : List Item) (t : Table) (front : Leaves) (c : CType) (name : Word) → ((e : CType) (n : ℕ) → c ≡ Array e n → ⊥)
    → IsTable items t front → IsTable items t (λ path. front path ++ if_array (shape_of (structs_of items) c) (leads_to true path name) (behind path))
none_added items t front c name other = same_table items t front (λ path. front path ++ if_array (shape_of (structs_of items) c) (leads_to true path name) (behind path))
    (λ path. sym (ap (λ (xs : List Leaf). front path ++ xs) (other_part (structs_of items) c (leads_to true path name) (behind path) other) ∙ append-nil (front path)))

pub array_added : (items : List Item) (t : Table) (front : Leaves) (c e : CType) (n : ℕ) (name : Word) → c ≡ Array e n
    → IsTable items t (λ path. front path ++ leaves (shape_of (structs_of (take (length items) items)) c) (leads_to true path name) (behind path))
    → IsTable items t (λ path. front path ++ if_array (shape_of (structs_of items) c) (leads_to true path name) (behind path))
array_added items t front c e n name is = same_table items t
    (λ path. front path ++ leaves (shape_of (structs_of (take (length items) items)) c) (leads_to true path name) (behind path))
    (λ path. front path ++ if_array (shape_of (structs_of items) c) (leads_to true path name) (behind path))
    (λ path. ap (λ (all : List Item). front path ++ leaves (shape_of (structs_of all) c) (leads_to true path name) (behind path)) (take_all (length items) items (omega arith))
    ∙ ap (λ (xs : List Leaf). front path ++ xs) (sym (array_part (structs_of items) c e n (leads_to true path name) (behind path) is)))

-- where all structs are known
pub all_known : (items : List Item) (t : Table) (front : Leaves) (f : Structs → Leaves) → IsTable items t (λ path. front path ++ f (structs_of (take (length items) items)) path)
    → IsTable items t (λ path. front path ++ f (structs_of items) path)
all_known items t front f = same_table items t (λ path. front path ++ f (structs_of (take (length items) items)) path) (λ path. front path ++ f (structs_of items) path)
    (λ path. ap (λ (all : List Item). front path ++ f (structs_of all) path) (take_all (length items) items (omega arith)))

-- ---- whole tables

pub item_table_is : (checked : Checked) (k : ℕ) (t : Table) (tag : Word) (members : List Declaration) (line : ℕ) (x : Item) → slice_get checked.typed.program.items k ≡ Some x → x ≡ Struct tag members line
    → IsTable checked.typed.program.items t (λ path. member_leaves (members_of (structs_of (take k checked.typed.program.items)) (flat_map (λ d. d.names) members)) true path)
    → IsTable checked.typed.program.items t (owner_leaves checked (owner.Item k))
item_table_is checked k t tag members line x got is =
    let items : List Item = checked.typed.program.items in
    same_table items t (λ path. member_leaves (members_of (structs_of (take k items)) (flat_map (λ d. d.names) members)) true path) (owner_leaves checked (owner.Item k))
    (λ path. ap (λ (y : Item). member_leaves (members_in (structs_of (take k items)) y) true path) (sym (item_is items k no_item x got ∙ is)))

pub sent_table_is : (checked : Checked) (k : ℕ) (reply : Bool) (t : Table) (s : Signature) → signature_of checked k ≡ Some s
    → IsTable checked.typed.program.items t (λ path. signature_leaves (structs_of checked.typed.program.items) reply (Some s) path)
    → IsTable checked.typed.program.items t (owner_leaves checked (owner.Sent k reply))
sent_table_is checked k reply t s is =
    same_table checked.typed.program.items t (λ path. signature_leaves (structs_of checked.typed.program.items) reply (Some s) path) (owner_leaves checked (owner.Sent k reply))
    (λ path. ap (λ (o : Option Signature). signature_leaves (structs_of checked.typed.program.items) reply o path) (sym is) ∙ sym (payload_is checked k reply path))

-- what a request has, and what a reply has
pub request_added : (items : List Item) (t : Table) (front : Leaves) (s : Signature)
    → IsTable items t (λ path. front path ++ member_leaves (members_of (structs_of (take (length items) items)) s.params) true path)
    → IsTable items t (λ path. front path ++ signature_leaves (structs_of items) false (Some s) path)
request_added items t front s is = all_known items t front (λ structs path. member_leaves (members_of structs s.params) true path) is

pub reply_added : (items : List Item) (t : Table) (front : Leaves) (s : Signature)
    → IsTable items t (λ path. (front path ++ leaves (shape_of (structs_of (take (length items) items)) s.result) (leads_to true path (codes "return")) (behind path)) ++ array_leaves (structs_of items) s.params path)
    → IsTable items t (λ path. front path ++ signature_leaves (structs_of items) true (Some s) path)
reply_added items t front s = same_table items t
    (λ path. (front path ++ leaves (shape_of (structs_of (take (length items) items)) s.result) (leads_to true path (codes "return")) (behind path)) ++ array_leaves (structs_of items) s.params path)
    (λ path. front path ++ signature_leaves (structs_of items) true (Some s) path)
    (λ path. append_assoc (front path) (leaves (shape_of (structs_of (take (length items) items)) s.result) (leads_to true path (codes "return")) (behind path)) (array_leaves (structs_of items) s.params path)
    ∙ ap (λ (all : List Item). front path ++ (leaves (shape_of (structs_of all) s.result) (leads_to true path (codes "return")) (behind path) ++ array_leaves (structs_of items) s.params path)) (take_all (length items) items (omega arith)))
