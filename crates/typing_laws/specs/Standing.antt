-- Where the items, statements and expressions of a program stand, and what is known there.
use Rattle.std.specs.Prelude.{◌≡◌, List, [], ◌∷◌, Bool, true, false, ◌⊎◌, Option, Some, None, if◌then◌else◌, bytes_eq, codes}
use Rattle.cl_tree.specs.declared.tree.CType.{CType}
use Rattle.cl_tree.specs.declared.tree.CType.TheVariants.{Void}
use Rattle.cl_tree.specs.declared.tree.Expr.{Expr}
use Rattle.cl_tree.specs.declared.tree.Node.{Node, Node-F, out-Node}
use Rattle.cl_tree.specs.declared.tree.Node.TheOpen as node
use Rattle.cl_tree.specs.declared.tree.Init.{Init, out-Init}
use Rattle.cl_tree.specs.declared.tree.Init.TheOpen as init
use Rattle.cl_tree.specs.declared.tree.Declarator.{Declarator}
use Rattle.cl_tree.specs.declared.tree.Stmt.{Stmt}
use Rattle.cl_tree.specs.declared.tree.Act.{Act, Act-F, out-Act}
use Rattle.cl_tree.specs.declared.tree.Act.TheOpen as act
use Rattle.cl_tree.specs.declared.tree.Item.{Item}
use Rattle.cl_tree.specs.declared.tree.Item.TheVariants as item
use Rattle.cl_tree.specs.declared.tree.Program.{Program}
use Rattle.cl_typing.specs.Scope.{Env, bound, with_names, env_after, tags_after}

abbrev pub OneOf : {A : Type 0} → List A → A → Type 0
OneOf [] x = ⊥
OneOf (y ∷ ys) x = (x ≡ y) ⊎ OneOf ys x

-- ---- items

-- what is known where an item begins: the structs, and the names
pub record Level : Type 0 where
  pub tags : Env
  pub names : Env

abbrev pub outermost : Level
outermost = record { tags = []; names = [] }

-- what is known behind an item
abbrev pub level_after : Item → Level → Level
level_after i level = record { tags = tags_after i level.tags; names = env_after i level.names }

-- An item stands among these at the level `there`, where the first of them stands at `level`.
abbrev pub AmongItems : List Item → Level → Item → Level → Type 0
AmongItems [] level i there = ⊥
AmongItems (first ∷ rest) level i there = ((i ≡ first) × (there ≡ level)) ⊎ AmongItems rest (level_after first level) i there

abbrev pub ItemStands : Program → Item → Level → Type 0
ItemStands program i there = AmongItems program.items outermost i there

-- ---- statements

-- what is known where a statement begins: the names, and whether it stands in a loop of its function
pub record Spot : Type 0 where
  pub names : Env
  pub in_loop : Bool

-- what a statement declares
abbrev pub act_declares : Act-F Act Stmt → List Declarator
act_declares (act.Declare d) = d.names
act_declares _ = []

abbrev pub declares : Stmt → List Declarator
declares s = act_declares (out-Act s.node)

-- what is known behind a statement in its block
abbrev pub spot_after : Stmt → Spot → Spot
spot_after s spot = record { names = with_names (declares s) spot.names; in_loop = spot.in_loop }

abbrev pub spot_after_first : Option Stmt → Spot → Spot
spot_after_first None spot = spot
spot_after_first (Some s) spot = spot_after s spot

abbrev pub looping : Spot → Spot
looping spot = record { names = spot.names; in_loop = true }

-- A statement stands among these at the spot `there`, where the first of them stands at `spot`.
abbrev pub AmongStmts : List Stmt → Spot → Stmt → Spot → Type 0
AmongStmts [] spot s there = ⊥
AmongStmts (first ∷ rest) spot s there = ((s ≡ first) × (there ≡ spot)) ⊎ AmongStmts rest (spot_after first spot) s there

-- A statement is a part of one that stands at `spot`.
abbrev pub PartOf : Act-F Act Stmt → Spot → Stmt → Spot → Type 0
PartOf (act.Block ss) spot s there = AmongStmts ss spot s there
PartOf (act.If c a b) spot s there = ((s ≡ a) ⊎ (b ≡ Some s)) × (there ≡ spot)
PartOf (act.While c body) spot s there = (s ≡ body) × (there ≡ looping spot)
PartOf (act.DoWhile body c) spot s there = (s ≡ body) × (there ≡ looping spot)
PartOf (act.For first test next body) spot s there =
    ((first ≡ Some s) × (there ≡ spot)) ⊎ (((next ≡ Some s) × (there ≡ spot_after_first first spot))
    ⊎ ((s ≡ body) × (there ≡ looping (spot_after_first first spot))))
PartOf _ spot s there = ⊥

-- A statement stands at `there` in one that stands at a spot: it is that one, or stands in a part of it.
pub data StandsIn (s : Stmt) (there : Spot) : Stmt → Spot → Type 0 where
  itself : StandsIn s there s there
  in_part : {t : Stmt} {spot : Spot} (part : Stmt) (inner : Spot) → PartOf (out-Act t.node) spot part inner → StandsIn s there part inner → StandsIn s there t spot

-- the parameters and the outermost block of a body are one scope
abbrev pub body_spot : List Declarator → Env → Spot
body_spot params names = record { names = with_names params names; in_loop = false }

-- ---- expressions

abbrev pub ChildOf : Node-F Node Expr → Expr → Type 0
ChildOf (node.Unary op e) x = x ≡ e
ChildOf (node.Binary op a b) x = (x ≡ a) ⊎ (x ≡ b)
ChildOf (node.Choice c a b) x = (x ≡ c) ⊎ ((x ≡ a) ⊎ (x ≡ b))
ChildOf (node.Cast t e) x = x ≡ e
ChildOf (node.Call name arguments) x = OneOf arguments x
ChildOf (node.Index a i) x = (x ≡ a) ⊎ (x ≡ i)
ChildOf (node.Member a name) x = x ≡ a
ChildOf (node.Arrow a name) x = x ≡ a
ChildOf (node.Paren e) x = x ≡ e
ChildOf _ x = ⊥

-- an expression is this one, or stands in an operand of it
pub data Inside (x : Expr) : Expr → Type 0 where
  whole : Inside x x
  in_child : {e : Expr} (child : Expr) → ChildOf (out-Node e.node) child → Inside x child → Inside x e

-- the expressions of an initialiser
pub data InInit (x : Expr) : Init → Type 0 where
  one : {i : Init} → out-Init i ≡ init.One x → InInit x i
  in_braces : {i : Init} (parts : List Init) (part : Init) → out-Init i ≡ init.Many parts → OneOf parts part → InInit x part → InInit x i

-- A declarator stands among these, where the names `there` are known before it.
abbrev pub AmongNames : List Declarator → Env → Declarator → Env → Type 0
AmongNames [] names d there = ⊥
AmongNames (first ∷ rest) names d there = ((d ≡ first) × (there ≡ names)) ⊎ AmongNames rest (bound first ∷ names) d there

-- An expression stands in the initialiser of a declarator, in which the declared name is known.
pub record Initialises (ds : List Declarator) (names : Env) (x : Expr) (there : Env) : Type 0 where
  pub declarator : Declarator
  pub before : Env
  pub among : AmongNames ds names declarator before
  pub init : Init
  pub is_its : declarator.init ≡ Some init
  pub inside : InInit x init
  pub known : there ≡ bound declarator ∷ before

abbrev pub rest_of : List Expr → List Expr
rest_of [] = []
rest_of (e ∷ es) = es

-- What a call that is a statement evaluates: of `printf` the arguments behind the format, of `putchar` the arguments, else the
-- call itself.
abbrev pub call_evaluates : Expr → Node-F Node Expr → List Expr
call_evaluates e (node.Call name arguments) =
    if bytes_eq name (codes "printf") then rest_of arguments
    else (if bytes_eq name (codes "putchar") then arguments else e ∷ [])
call_evaluates e _ = e ∷ []

-- A statement evaluates an expression itself, and not in a part; `there` are the names that are known in it.
abbrev pub Evaluates : Act-F Act Stmt → Spot → Expr → Env → Type 0
Evaluates (act.Set op place value) spot x there = ((x ≡ place) ⊎ (x ≡ value)) × (there ≡ spot.names)
Evaluates (act.Bump up prefix place) spot x there = (x ≡ place) × (there ≡ spot.names)
Evaluates (act.Call e) spot x there = OneOf (call_evaluates e (out-Node e.node)) x × (there ≡ spot.names)
Evaluates (act.If c a b) spot x there = (x ≡ c) × (there ≡ spot.names)
Evaluates (act.While c body) spot x there = (x ≡ c) × (there ≡ spot.names)
Evaluates (act.DoWhile body c) spot x there = (x ≡ c) × (there ≡ spot.names)
Evaluates (act.For first test next body) spot x there = (test ≡ Some x) × (there ≡ (spot_after_first first spot).names)
Evaluates (act.Return e) spot x there = (e ≡ Some x) × (there ≡ spot.names)
Evaluates (act.Declare d) spot x there = Initialises d.names spot.names x there
Evaluates _ spot x there = ⊥

-- ---- what stands in an item

-- a statement of the outermost block of a function; in its body the function is known
abbrev pub BodyHas : Item → Env → Stmt → Spot → Type 0
BodyHas (item.Function is_static result name void_word params (Some body) line second) names s there =
    AmongStmts body (body_spot params (env_after (item.Function is_static result name void_word params (Some body) line second) names)) s there
BodyHas _ names s there = ⊥

-- A statement stands in the body of a function.
pub record InBody (i : Item) (names : Env) (s : Stmt) (there : Spot) : Type 0 where
  pub outermost : Stmt
  pub spot : Spot
  pub among : BodyHas i names outermost spot
  pub stands : StandsIn s there outermost spot

-- the result of the function that an item declares; there is none in other items
abbrev pub result_of : Item → CType
result_of (item.Function is_static result name void_word params body line second) = result
result_of _ = Void

-- An item evaluates an expression: in an initialiser of a variable, or in a statement.
abbrev pub ItemEvaluates : Item → Env → Expr → Env → Type 0
ItemEvaluates (item.Variables d) names x there = Initialises d.names names x there
ItemEvaluates i names x there = (s : Stmt) × (spot : Spot) × InBody i names s spot × Evaluates (out-Act s.node) spot x there

-- ---- what stands in a program

-- A statement stands in a program: in an item, which begins at `level`.
pub record StmtStands (program : Program) (i : Item) (level : Level) (s : Stmt) (there : Spot) : Type 0 where
  pub stands : ItemStands program i level
  pub within : InBody i level.names s there

-- An expression stands in a program, where the structs `tags` and the names `there` are known.
pub record Stands (program : Program) (tags there : Env) (x : Expr) : Type 0 where
  pub item : Item
  pub level : Level
  pub stands : ItemStands program item level
  pub tags_are : tags ≡ level.tags
  pub root : Expr
  pub evaluates : ItemEvaluates item level.names root there
  pub inside : Inside x root
