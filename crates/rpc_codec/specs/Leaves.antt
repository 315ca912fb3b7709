-- The integers of a payload with those of them that lie under a path of members.
use Rattle.std.specs.Prelude.{ℕ, suc, Bool, true, false, ◌&&◌, List, [], ◌∷◌, ◌++◌, Option, Some, None, bytes_eq, if◌then◌else◌}
use Rattle.cl_tree.specs.declared.kinds.IntKind.{IntKind}
use Rattle.cl_tree.specs.declared.tree.CType.{CType, CType-F, fold-CType}
use Rattle.cl_tree.specs.declared.tree.CType.TheOpen as ctype
use Rattle.cl_tree.specs.Words.{Word, entry}
use Rattle.cl_mean.specs.Shape.{Shape, nothing, integer, struct, array, Members, no_members, member, Structs, struct_known, times}
use Rattle.cl_mean.specs.Source.{Definition, payload_of}
use Rattle.rpc_codec.specs.declared.leaves.Leaf.{Leaf}
use Rattle.rpc_codec.specs.declared.leaves.Base.{Base}
use Rattle.rpc_codec.specs.declared.leaves.Base.TheVariants as base

abbrev pub leaf : IntKind → Bool → Leaf
leaf kind chosen = record { kind = kind; chosen = chosen }

abbrev pub is_end : List Word → Bool
is_end [] = true
is_end (p ∷ path) = false

-- whether a path leads into a member
abbrev pub leads_to : Bool → List Word → Word → Bool
leads_to on [] name = on
leads_to on (p ∷ path) name = on && bytes_eq p name

-- what is left of it there
abbrev pub behind : List Word → List Word
behind [] = []
behind (p ∷ path) = path

-- The integers in declared order. A path that ends at a struct or an array has all its integers under it; one that leads elsewhere
-- (`on` is false) has none.
abbrev mutual
  pub leaves : Shape → Bool → List Word → List Leaf
  leaves nothing on path = []
  leaves (integer kind) on path = leaf kind (on && is_end path) ∷ []
  leaves (struct ms) on path = member_leaves ms on path
  leaves (array element size) on path = times size (leaves element on path)

  pub member_leaves : Members → Bool → List Word → List Leaf
  member_leaves no_members on path = []
  member_leaves (member name s ms) on path = leaves s (leads_to on path name) (behind path) ++ member_leaves ms on path

-- the payload of a function, if it is defined
abbrev pub payload_by : Option Definition → Bool → Shape
payload_by None reply = nothing
payload_by (Some d) reply = payload_of d reply

-- the places of those under the path, counted from a number on
abbrev pub chosen_from : ℕ → List Leaf → List ℕ
chosen_from at [] = []
chosen_from at (l ∷ ls) = if l.chosen then at ∷ chosen_from (suc at) ls else chosen_from (suc at) ls

-- ---- the same by the base of a type: what an array is of, in the end

abbrev pub base_leaves : Structs → Base → Bool → List Word → List Leaf
base_leaves structs (base.Kind kind) on path = leaf kind (on && is_end path) ∷ []
base_leaves structs (base.Tag tag) on path = leaves (struct_known (entry structs tag.now)) on path
base_leaves structs base.Other on path = []

abbrev pub spread_step : List Leaf → CType-F (List Leaf) → List Leaf
spread_step base (ctype.Array element size) = times size element
spread_step base _ = base

-- these integers, which are those of the base, for each element
unfoldable pub spread : CType → List Leaf → List Leaf
spread t base = fold-CType (List Leaf) (spread_step base) t
