-- The facts of a program: its functions and its objects of static duration.
use Rattle.std.specs.Prelude.{◌≡◌, ℕ, ◌<◌, List, [], ◌∷◌, Option, Some, None, slice_get, codes}
use Rattle.cl_tree.specs.declared.kinds.IntKind.TheVariants.{I32}
use Rattle.cl_tree.specs.declared.tree.CType.TheVariants.{Integer}
use Rattle.cl_tree.specs.declared.tree.Declarator.{Declarator}
use Rattle.cl_tree.specs.declared.tree.Item.{Item}
use Rattle.cl_tree.specs.declared.tree.Item.TheVariants as item
use Rattle.cl_tree.specs.declared.tree.Program.{Program}
use Rattle.cl_mean.specs.declared.checked.FnFact.{FnFact}
use Rattle.cl_mean.specs.declared.checked.ObjFact.{ObjFact}
use Rattle.cl_mean.specs.Source.{item_statics}
use Rattle.cl_typing.specs.Facts.{functions_of}
use Rattle.typing_laws.specs.Standing.{OneOf}

-- the item defines a function
abbrev pub IsDefinition : Item → Type 0
IsDefinition (item.Function is_static result name void_word params (Some body) line second) = Unit {0}
IsDefinition _ = ⊥

-- the item defines the function of the fact
abbrev pub IsFactOf : FnFact → Item → Type 0
IsFactOf f (item.Function is_static result name void_word params (Some body) line second) = (f.name ≡ name) × (f.line ≡ second)
IsFactOf f _ = ⊥

-- a fact of the item of its number
abbrev pub FactOfProgram : Program → FnFact → Type 0
FactOfProgram program f = (i : Item) × (slice_get program.items f.item ≡ Some i) × IsFactOf f i

-- in the order of the source, no two of one item
abbrev pub InOrder : List FnFact → Type 0
InOrder [] = Unit {0}
InOrder (f ∷ fs) = ((g : FnFact) → OneOf fs g → f.item < g.item) × InOrder fs

-- no two of one name
abbrev pub Distinct : List FnFact → Type 0
Distinct [] = Unit {0}
Distinct (f ∷ fs) = ((g : FnFact) → OneOf fs g → f.name ≡ g.name → ⊥) × Distinct fs

-- the item defines `main` with the result `int` and no parameters
abbrev pub IsMain : Item → Type 0
IsMain (item.Function is_static result name void_word params (Some body) line second) =
    (name ≡ codes "main") × (result ≡ Integer I32) × (params ≡ [])
IsMain _ = ⊥

pub record HasMain (program : Program) : Type 0 where
  pub fact : FnFact
  pub item : Item
  pub listed : OneOf (functions_of program) fact
  pub named : fact.name ≡ codes "main"
  pub stands : slice_get program.items fact.item ≡ Some item
  pub is_main : IsMain item

-- ---- objects

-- the fact of the object that a declarator declares
abbrev pub IsObjectOf : ObjFact → Declarator → Type 0
IsObjectOf o d = (o.name ≡ d.name) × (o.ctype ≡ d.ctype) × (o.line ≡ d.line)

-- one for each, in order
abbrev pub AreObjectsOf : List ObjFact → List Declarator → Type 0
AreObjectsOf [] [] = Unit {0}
AreObjectsOf (o ∷ os) (d ∷ ds) = IsObjectOf o d × AreObjectsOf os ds
AreObjectsOf _ _ = ⊥

-- an item of variables has no owner, and the static locals of a function have it
abbrev pub OwnerFits : Option ℕ → Item → Type 0
OwnerFits None (item.Variables d) = Unit {0}
OwnerFits (Some k) (item.Function is_static result name void_word params (Some body) line second) = Unit {0}
OwnerFits _ _ = ⊥

-- an object of the item of its number
pub record ObjectOfProgram (program : Program) (o : ObjFact) : Type 0 where
  pub item : Item
  pub declarator : Declarator
  pub stands : slice_get program.items o.item ≡ Some item
  pub declares : OneOf (item_statics item) declarator
  pub is_its : IsObjectOf o declarator
  pub owner : OwnerFits o.owner item

-- the owner is the function of the object's item
abbrev pub OwnerListed : Program → ObjFact → Type 0
OwnerListed program o = (k : ℕ) → o.owner ≡ Some k → (f : FnFact) × (slice_get (functions_of program) k ≡ Some f) × (f.item ≡ o.item)
