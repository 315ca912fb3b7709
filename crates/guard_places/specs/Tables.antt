-- What tables of members are of: the integers of a struct, or of a payload, with those of them that lie under a path.
use Rattle.std.specs.Prelude.{◌≡◌, ℕ, ◌+◌, Bool, true, List, [], ◌∷◌, ◌++◌, take, length, Option, Some, None, slice_index_or}
use Rattle.std.specs.BTreeMap.{get_by_text}
use Rattle.std.specs.List.{flat_map}
use Rattle.cl_tree.specs.declared.tree.Item.{Item}
use Rattle.cl_tree.specs.declared.tree.Item.TheVariants.{Struct}
use Rattle.cl_tree.specs.Words.{Word}
use Rattle.cl_mean.specs.declared.checked.Checked.{Checked}
use Rattle.cl_mean.specs.Shape.{Shape, Members, no_members, Structs, structs_of, members_of, times}
use Rattle.cl_mean.specs.Source.{function_at, no_item, source_of}
use Rattle.rpc_codec.specs.declared.leaves.Leaf.{Leaf}
use Rattle.rpc_codec.specs.Leaves.{leaves, member_leaves, payload_by}
use Rattle.guard_places.specs.declared.inside.Inner.{Inner}
use Rattle.guard_places.specs.declared.places.Place.{Place}
use Rattle.guard_places.specs.declared.table.Member.{Member}
use Rattle.guard_places.specs.declared.table.Table.{Table}
use Rattle.guard_places.specs.declared.tables.Kept.{Kept}
use Rattle.guard_places.specs.declared.tables.Owner.{Owner}
use Rattle.guard_places.specs.declared.tables.Owner.TheVariants as owner
use Rattle.guard_places.specs.Places.{chosen_places}

-- the members of the struct that an item is, whose types are of structs before it
abbrev pub members_in : Structs → Item → Members
members_in structs (Struct tag declarations _) = members_of structs (flat_map (λ d. d.names) declarations)
members_in structs _ = no_members

abbrev pub item_members : List Item → ℕ → Members
item_members items k = members_in (structs_of (take k items)) (slice_index_or items k no_item)

abbrev pub struct_leaves : List Item → ℕ → List Word → List Leaf
struct_leaves items k path = member_leaves (item_members items k) true path

-- a shape is so many of a struct, or no path leads into it
abbrev pub IsInner : List Item → Option Inner → Shape → Type 0
IsInner items None s = (name : Word) (path : List Word) (at : ℕ) → chosen_places at (leaves s true (name ∷ path)) ≡ []
IsInner items (Some i) s = (path : List Word) → leaves s true path ≡ times i.elements (struct_leaves items i.item path)

-- the integers under a path into what is inside a member
abbrev pub inner_places : List Item → Option Inner → List Word → ℕ → List Place
inner_places items None path at = []
inner_places items (Some i) path at = chosen_places at (times i.elements (struct_leaves items i.item path))

-- the integers under a path by the member that its first name leads to, and the rest of it
abbrev pub member_places : List Item → Option Member → List Word → ℕ → List Place
member_places items None path at = []
member_places items (Some m) [] at = chosen_places (at + m.at) m.leaves.items
member_places items (Some m) (name ∷ path) at = inner_places items m.inner (name ∷ path) (at + m.at)

-- a table of what has these integers, by their paths
pub record IsTable (items : List Item) (table : Table) (integers : List Word → List Leaf) : Type 0 where
  pub each : (name : Word) (path : List Word) (at : ℕ) → chosen_places at (integers (name ∷ path)) ≡ member_places items (get_by_text table.members name) path at
  pub count : (path : List Word) → length (integers path) ≡ table.count

abbrev pub owner_leaves : Checked → Owner → List Word → List Leaf
owner_leaves checked (owner.Item k) path = struct_leaves checked.typed.program.items k path
owner_leaves checked (owner.Sent function reply) path = leaves (payload_by (function_at (source_of checked).functions function) reply) true path

-- what is kept is the table of its owner
abbrev pub IsKept : Checked → Option Kept → Type 0
IsKept checked None = Unit {0}
IsKept checked (Some k) = IsTable checked.typed.program.items k.table (owner_leaves checked k.owner)
