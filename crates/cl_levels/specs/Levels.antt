-- Levels: those of annotated symbols, of the groups of the others, and of `main`. E24 and E25.
use Rattle.std.specs.Prelude.{◌≡◌, ◌⊎◌, ◌<◌, ℕ, suc, Bool, true, false, not, ◌==◌, List, [], ◌∷◌, ◌++◌, length, Option, Some, None, option_map, bytes_eq, codes, if◌then◌else◌, slice_index_or, Contains}
use Rattle.std.specs.List.{flat_map}
use Rattle.cl_tree.specs.declared.tree.Declarator.{Declarator}
use Rattle.cl_tree.specs.declared.tree.Stmt.{Stmt, fold-Stmt}
use Rattle.cl_tree.specs.declared.tree.Act.{Act-F}
use Rattle.cl_tree.specs.declared.tree.Act.TheOpen as act
use Rattle.cl_tree.specs.declared.tree.Item.{Item}
use Rattle.cl_tree.specs.declared.tree.Item.TheVariants as item
use Rattle.cl_tree.specs.declared.tree.Program.{Program}
use Rattle.cl_tree.specs.Words.{Word}
use Rattle.cl_mean.specs.declared.checked.FnFact.{FnFact}
use Rattle.cl_mean.specs.declared.checked.Typed.{Typed}
use Rattle.cl_mean.specs.declared.checked.Levels.{Levels}
use Rattle.cl_mean.specs.declared.labels.LabelTable.{LabelTable}
use Rattle.cl_mean.specs.Shape.{times}
use Rattle.cl_mean.specs.Source.{label_at, no_item}
use Rattle.cl_typing.specs.Rules.{Lines, unless}
use Rattle.cl_labelling.specs.Regions.{item_part}
use Rattle.cl_reach.specs.Reach.{Reaches}
use Rattle.cl_levels.specs.Placed.{Places}
use Rattle.cl_levels.specs.declared.uses.Variable.{Variable}
use Rattle.cl_levels.specs.declared.uses.Use.{Use}
use Rattle.cl_levels.specs.declared.uses.Use.TheVariants.{Named, Called}
use Rattle.cl_levels.specs.Uses.{number_among, uses_of, of_each}

-- a typed program with its labels
pub record Annotated : Type 0 where
  pub typed : Typed
  pub labels : LabelTable

-- What has a level: a function or an object of static duration, by its number.
pub data Symbol : Type 0 where
  function : ℕ → Symbol
  object : ℕ → Symbol

-- ---- what is annotated

abbrev pub label_of : Annotated → Symbol → Option ℕ
label_of a (function k) = slice_index_or a.labels.on_functions k None
label_of a (object k) = slice_index_or a.labels.on_objects k None

abbrev pub IsFree : Annotated → Symbol → Type 0
IsFree a x = label_of a x ≡ None

-- the level of an annotated symbol: its label's
abbrev pub own_level : Annotated → Symbol → Option ℕ
own_level a x = option_map (λ l. l.level) (label_at a.labels.labels (label_of a x))

-- ---- ties

-- what the function of a number uses
abbrev pub body_of : Annotated → ℕ → List Use
body_of a f = slice_index_or (uses_of a.typed) f []

-- a function names an object
abbrev pub Names : Annotated → ℕ → ℕ → Type 0
Names a f k = (line : ℕ) × Contains (body_of a f) (Named k line)

-- a function calls a function of the program
abbrev pub Calls : Annotated → ℕ → ℕ → Type 0
Calls a f g = (roots : List (Option Variable)) × ((line : ℕ) × Contains (body_of a f) (Called g roots line))

-- A function is tied to a variable that it names, and to an unannotated function that it calls.
abbrev pub Ties : Annotated → Symbol → Symbol → Type 0
Ties a (function f) (object k) = Names a f k
Ties a (function f) (function g) = Calls a f g × IsFree a (function g)
Ties a (object k) y = ⊥

abbrev pub Tied : Annotated → Symbol → Symbol → Type 0
Tied a x y = Ties a x y ⊎ Ties a y x

-- ---- groups

abbrev pub Joined : Annotated → Symbol → Symbol → Type 0
Joined a x y = Tied a x y × (IsFree a x × IsFree a y)

-- a chain of ties through unannotated symbols leads from one to the other
abbrev pub InGroup : Annotated → Symbol → Symbol → Type 0
InGroup a x y = Reaches (Joined a) (λ z. z ≡ x) y

-- the group of an unannotated symbol has a level: that of an annotated one which is tied to a member
abbrev pub GroupHas : Annotated → Symbol → ℕ → Type 0
GroupHas a x level = (y : Symbol) × (InGroup a x y × ((z : Symbol) × (Tied a y z × (own_level a z ≡ Some level))))

abbrev pub HasNone : Annotated → Symbol → Type 0
HasNone a x = (level : ℕ) → GroupHas a x level → ⊥

-- ---- levels

-- the level of a symbol, where those of a group without one are given
abbrev pub LevelOr : (ℕ → Type 0) → Annotated → Symbol → ℕ → Type 0
LevelOr Otherwise a x level =
    (own_level a x ≡ Some level) ⊎ (IsFree a x × (GroupHas a x level ⊎ (HasNone a x × Otherwise level)))

-- A group without a level that `main` is in has level 0.
abbrev pub IsMainLevel : Annotated → ℕ → Type 0
IsMainLevel a level = (m : ℕ) × ((number_among a.typed.functions (codes "main") ≡ Some m) × LevelOr (λ l. l ≡ 0) a (function m) level)

-- Any other group without a level has that of `main`.
abbrev pub IsLevel : Annotated → Symbol → ℕ → Type 0
IsLevel a x level = LevelOr (IsMainLevel a) a x level

abbrev pub AreLevels : (ℕ → Symbol) → Annotated → List ℕ → Type 0
AreLevels symbol a levels = (k : ℕ) → k < length levels → IsLevel a (symbol k) (slice_index_or levels k 0)

-- the levels of a program
pub record IsLevelled (a : Annotated) (levels : Levels) : Type 0 where
  pub functions : length levels.of_functions ≡ length a.typed.functions
  pub of_functions : AreLevels function a levels.of_functions
  pub objects : length levels.of_objects ≡ length a.typed.objects
  pub of_objects : AreLevels object a levels.of_objects
  pub main : IsMainLevel a levels.main

-- ---- first tokens

abbrev pub item_line : Item → ℕ
item_line i = (item_part i).line

abbrev pub maybe_lines : Option Lines → Lines
maybe_lines None = []
maybe_lines (Some lines) = lines

abbrev pub if_static : Bool → ℕ → ℕ → Lines
if_static true count line = times count (line ∷ [])
if_static false count line = []

-- the line of the first token of the declaration of each static local
abbrev pub act_lines : Act-F (ℕ → Lines) Lines → ℕ → Lines
act_lines (act.Block ss) line = flat_map (λ ls. ls) ss
act_lines (act.If c s other) line = s ++ maybe_lines other
act_lines (act.While c s) line = s
act_lines (act.DoWhile s c) line = s
act_lines (act.For first test next s) line = s
act_lines (act.Declare d) line = if_static d.is_static (length d.names) line
act_lines _ line = []

unfoldable pub stmt_lines : Stmt → Lines
stmt_lines = fold-Stmt (ℕ → Lines) Lines act_lines (λ s. s.node s.line)

-- the same of each object of static duration, in the order of the source
unfoldable pub lines_in : Item → Lines
lines_in (item.Variables d) = times (length d.names) (item_line (item.Variables d) ∷ [])
lines_in (item.Function is_static result name void_word params (Some ss) line second) = flat_map stmt_lines ss
lines_in _ = []

unfoldable pub object_lines : Program → Lines
object_lines program = flat_map lines_in program.items

abbrev pub no_fact : FnFact
no_fact = record { name = []; item = 0; line = 0 }

-- A function stands where its definition does.
unfoldable pub symbol_line : Annotated → Symbol → ℕ
symbol_line a (function k) = item_line (slice_index_or a.typed.program.items (slice_index_or a.typed.functions k no_fact).item no_item)
symbol_line a (object k) = slice_index_or (object_lines a.typed.program) k 0

abbrev pub IsSymbol : Annotated → Symbol → Type 0
IsSymbol a (function k) = k < length a.typed.functions
IsSymbol a (object k) = k < length a.typed.objects

-- ---- E24: a group has two levels

abbrev pub HasTwo : Annotated → Symbol → Type 0
HasTwo a x = (level : ℕ) × ((other : ℕ) × (GroupHas a x level × (GroupHas a x other × (level ≡ other → ⊥))))

-- The place is the first of the group's members; the first of all is so the first of the members of any such group.
abbrev pub two_levels : Annotated → Places
two_levels a position line =
    (position ≡ line) × ((x : Symbol) × (IsSymbol a x × (IsFree a x × (HasTwo a x × (symbol_line a x ≡ line)))))

-- ---- E25: an annotated function names an annotated variable of another level

abbrev pub differs : Option ℕ → Option ℕ → Bool
differs (Some level) (Some other) = not (level == other)
differs _ _ = false

abbrev pub foreign_use : Annotated → ℕ → Use → Lines
foreign_use a f (Named k line) = unless (not (differs (own_level a (function f)) (own_level a (object k)))) line
foreign_use a f (Called g roots line) = []

unfoldable pub foreign_names : Annotated → Lines
foreign_names a = of_each (foreign_use a) a.typed
