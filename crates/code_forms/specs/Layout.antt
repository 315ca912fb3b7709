-- Cells: of a value, of a frame, of the objects that names mean. The integers of a value lie in declared order, one in a cell.
use Rattle.std.specs.Prelude.{ℕ, zero, suc, ◌+◌, ◌*◌, Bool, true, false, List, [], ◌∷◌, Option, Some, None, if◌then◌else◌, bytes_eq}
use Rattle.cl_tree.specs.Words.{Word}
use Rattle.cl_tree.specs.declared.kinds.IntKind.{IntKind}
use Rattle.cl_mean.specs.Shape.{Shape, nothing, integer, struct, array, Members, no_members, member, Structs, member_shape, member_index, count_of}
use Rattle.en_image.specs.declared.instr.Instr.{Instr}
use Rattle.en_image.specs.declared.instr.Instr.TheVariants as instr
use Rattle.code_forms.specs.declared.route.Route.{Route}
use Rattle.code_forms.specs.declared.storage.Storage.{Storage}
use Rattle.code_forms.specs.declared.storage.Storage.TheVariants.{Local, Borrowed, Global}

-- ---- parts of a type

abbrev pub integer_in : Shape → Option IntKind
integer_in (integer kind) = Some kind
integer_in _ = None

-- what an array has, and how many of them
pub record Elements : Type 0 where
  pub shape : Shape
  pub count : ℕ

abbrev pub elements_in : Shape → Option Elements
elements_in (array element size) = Some (record { shape = element; count = size })
elements_in _ = None

-- the cells of the members before one
abbrev pub cells_before : Members → ℕ → ℕ
cells_before no_members i = 0
cells_before (member name s ms) zero = 0
cells_before (member name s ms) (suc i) = count_of s + cells_before ms i

-- a part of a value: its type, and where it begins among the cells
pub record Section : Type 0 where
  pub shape : Shape
  pub offset : ℕ

abbrev pub member_at : Members → ℕ → Section
member_at ms i = record { shape = member_shape ms i; offset = cells_before ms i }

-- the member of a struct that has a name
abbrev pub member_in : Shape → Word → Option Section
member_in (struct ms) name = Some (member_at ms (member_index ms name))
member_in _ name = None

-- the part of a struct or an array that has a number
abbrev pub numbered_in : Shape → ℕ → Section
numbered_in (struct ms) i = member_at ms i
numbered_in (array element size) i = record { shape = element; offset = i * count_of element }
numbered_in _ i = record { shape = nothing; offset = 0 }

-- ---- arguments

abbrev pub is_array : Shape → Bool
is_array (array element size) = true
is_array _ = false

-- the cells of an argument: those of its value, or the one of an array's address
abbrev pub width_of : Shape → ℕ
width_of shape = if is_array shape then 1 else count_of shape

-- the cells of an array, and none of anything else
abbrev pub lent_count : Shape → ℕ
lent_count shape = if is_array shape then count_of shape else 0

abbrev pub widths : List Shape → ℕ
widths [] = 0
widths (s ∷ ss) = width_of s + widths ss

abbrev pub counts : List Shape → ℕ
counts [] = 0
counts (s ∷ ss) = count_of s + counts ss

abbrev pub lent_counts : List Shape → ℕ
lent_counts [] = 0
lent_counts (s ∷ ss) = lent_count s + lent_counts ss

-- ---- names

-- what a name means: its type, and where it lies
pub record Meant : Type 0 where
  pub shape : Shape
  pub storage : Storage

pub record Bound : Type 0 where
  pub name : Word
  pub meant : Meant

abbrev pub bound : Word → Shape → Storage → Bound
bound name shape storage = record { name = name; meant = record { shape = shape; storage = storage } }

-- of the names that are known, the innermost first
unfoldable pub meant_by : List Bound → Word → Option Meant
meant_by [] name = None
meant_by (b ∷ bs) name = if bytes_eq b.name name then Some b.meant else meant_by bs name

-- the instruction that pushes an address
abbrev pub address : Storage → Instr
address (Local cell) = instr.Local cell
address (Borrowed cell) = instr.Borrowed cell
address (Global cell) = instr.Global cell

-- ---- functions

-- a function as those of a level call it: its number, the line of its name, the way to it, its result and its parameters
pub record Callee : Type 0 where
  pub name : Word
  pub index : ℕ
  pub line : ℕ
  pub route : Route
  pub result : Shape
  pub params : List Shape

unfoldable pub callee_of : List Callee → Word → Option Callee
callee_of [] name = None
callee_of (c ∷ cs) name = if bytes_eq c.name name then Some c else callee_of cs name

-- what the code of a level's functions goes by: the structs of the source, and its functions
pub record Facts : Type 0 where
  pub structs : Structs
  pub callees : List Callee
