-- Types as the compiler has them, and as the definitions have them.
use Rattle.std.specs.Prelude.{◌≡◌, ℕ, ◌+◌, List, ◌++◌}
use Rattle.cl_tree.specs.declared.tree.CType.{CType}
use Rattle.cl_tree.specs.declared.kinds.IntKind.{IntKind}
use Rattle.cl_tree.specs.declared.tree.Declarator.{Declarator}
use Rattle.cl_tree.specs.declared.tree.Item.{Item}
use Rattle.cl_tree.specs.Words.{Word}
use Rattle.cl_mean.specs.Shape.{Shape, nothing, integer, Members, member_index, Structs, members_of, shape_of, structs_of}
use Rattle.code_forms.specs.Layout as layout
use Rattle.code_tables.specs.declared.types.ValueType.{ValueType}
use Rattle.code_tables.specs.declared.types.ValueType.TheVariants.{Nothing, Integer, Written}
use Rattle.code_tables.specs.declared.types.Elements.{Elements}
use Rattle.code_tables.specs.declared.types.Section.{Section}
use Rattle.code_tables.specs.declared.types.Found.{Found}
use Rattle.code_tables.specs.declared.types.Found.TheVariants.{At, Past}

-- a type, without the places where its parts are kept
pub data Kept : Type 0 where
  none : Kept
  kind : IntKind → Kept
  written : CType → List Item → Kept

abbrev pub kept : ValueType → Kept
kept Nothing = none
kept (Integer k) = kind k
kept (Written ctype items) = written ctype.now items.now

abbrev pub shape_by : Kept → Shape
shape_by none = nothing
shape_by (kind k) = integer k
shape_by (written ctype items) = shape_of (structs_of items) ctype

abbrev pub shape_in : ValueType → Shape
shape_in t = shape_by (kept t)

abbrev pub elements_in : Elements → layout.Elements
elements_in e = record { shape = shape_in e.ctype; count = e.count }

abbrev pub section_in : Section → layout.Section
section_in s = record { shape = shape_in s.ctype; offset = s.offset }

-- ---- the member of a name

abbrev pub section_of : Members → Word → layout.Section
section_of ms name = layout.member_at ms (member_index ms name)

-- a part of what stands behind so many cells
abbrev pub behind : ℕ → layout.Section → layout.Section
behind n s = record { shape = s.shape; offset = n + s.offset }

-- what these declarators say of a member, whatever stands behind them
abbrev pub IsFound : Structs → List Declarator → Word → Found → Type 0
IsFound structs ds name (At s) = (es : List Declarator) → section_of (members_of structs (ds ++ es)) name ≡ section_in s
IsFound structs ds name (Past n) = (es : List Declarator) → section_of (members_of structs (ds ++ es)) name ≡ behind n (section_of (members_of structs es) name)
