-- What the bodies of functions use: the objects of static duration that they name and the functions that they call, in the
-- order of the source.
use Rattle.std.specs.Prelude.{ℕ, suc, Bool, true, false, List, [], ◌∷◌, ◌++◌, map, Option, Some, None, bytes_eq, if◌then◌else◌}
use Rattle.std.specs.List.{flat_map}
use Rattle.cl_tree.specs.declared.tree.Expr.{Expr, fold-Expr}
use Rattle.cl_tree.specs.declared.tree.Node.{Node-F}
use Rattle.cl_tree.specs.declared.tree.Node.TheOpen as node
use Rattle.cl_tree.specs.declared.tree.Init.{Init, Init-F, fold-Init}
use Rattle.cl_tree.specs.declared.tree.Init.TheOpen as init
use Rattle.cl_tree.specs.declared.tree.Declarator.{Declarator}
use Rattle.cl_tree.specs.declared.tree.Stmt.{Stmt, fold-Stmt}
use Rattle.cl_tree.specs.declared.tree.Act.{Act-F}
use Rattle.cl_tree.specs.declared.tree.Act.TheOpen as act
use Rattle.cl_tree.specs.declared.tree.Item.{Item}
use Rattle.cl_tree.specs.declared.tree.Item.TheVariants as item
use Rattle.cl_tree.specs.declared.tree.Program.{Program}
use Rattle.cl_tree.specs.Words.{Word}
use Rattle.cl_mean.specs.declared.checked.FnFact.{FnFact}
use Rattle.cl_mean.specs.declared.checked.Typed.{Typed}
use Rattle.cl_levels.specs.declared.uses.Variable.{Variable}
use Rattle.cl_levels.specs.declared.uses.Variable.TheVariants.{Static, Local}
use Rattle.cl_levels.specs.declared.uses.Use.{Use}
use Rattle.cl_levels.specs.declared.uses.Use.TheVariants.{Named, Called}

-- ---- functions

-- the number of the function that has a name, counted from a number on
unfoldable pub number_from : ℕ → List FnFact → Word → Option ℕ
number_from k [] name = None
number_from k (f ∷ fs) name = if bytes_eq f.name name then Some k else number_from (suc k) fs name

abbrev pub number_among : List FnFact → Word → Option ℕ
number_among fs name = number_from 0 fs name

-- ---- names

-- the variables that are known, the innermost first
pub record Known : Type 0 where
  pub name : Word
  pub variable : Variable

abbrev pub known : Word → Variable → Known
known name variable = record { name = name; variable = variable }

unfoldable pub variable_of : List Known → Word → Option Variable
variable_of [] name = None
variable_of (k ∷ ks) name = if bytes_eq k.name name then Some k.variable else variable_of ks name

-- Where a walk stands: the variables that are known, how many locals of the function and how many objects of the program
-- were declared so far.
pub record Names : Type 0 where
  pub known : List Known
  pub locals : ℕ
  pub statics : ℕ

-- ---- expressions

-- the uses of an expression, and the variable at its root, if it names a place
pub record Read : Type 0 where
  pub uses : List Use
  pub root : Option Variable

abbrev pub no_place : List Use → Read
no_place uses = record { uses = uses; root = None }

abbrev pub named : Option Variable → ℕ → List Use
named (Some (Static k)) line = Named k line ∷ []
named _ line = []

-- a call of a function of the program; one of the library's uses nothing
abbrev pub called : Option ℕ → List (Option Variable) → ℕ → List Use
called None roots line = []
called (Some callee) roots line = Called callee roots line ∷ []

-- A call stands before what its arguments use.
abbrev pub node_read : List FnFact → List Known → Node-F (ℕ → Read) Read → ℕ → Read
node_read fs ks (node.Variable name) line = record { uses = named (variable_of ks name) line; root = variable_of ks name }
node_read fs ks (node.Unary op a) line = no_place a.uses
node_read fs ks (node.Binary op a b) line = no_place (a.uses ++ b.uses)
node_read fs ks (node.Choice c a b) line = no_place (c.uses ++ (a.uses ++ b.uses))
node_read fs ks (node.Cast ctype a) line = no_place a.uses
node_read fs ks (node.Call name all) line = no_place (called (number_among fs name) (map (λ a. a.root) all) line ++ flat_map (λ a. a.uses) all)
node_read fs ks (node.Index a i) line = record { uses = a.uses ++ i.uses; root = a.root }
node_read fs ks (node.Member a name) line = a
node_read fs ks (node.Arrow a name) line = a
node_read fs ks (node.Paren a) line = a
node_read fs ks _ line = no_place []

unfoldable pub read : List FnFact → List Known → Expr → Read
read fs ks = fold-Expr (ℕ → Read) Read (node_read fs ks) (λ e. e.node e.line)

abbrev pub uses_in : List FnFact → List Known → Expr → List Use
uses_in fs ks e = (read fs ks e).uses

abbrev pub maybe_uses : List FnFact → List Known → Option Expr → List Use
maybe_uses fs ks None = []
maybe_uses fs ks (Some e) = uses_in fs ks e

abbrev pub init_step : List FnFact → List Known → Init-F (List Use) → List Use
init_step fs ks (init.One e) = uses_in fs ks e
init_step fs ks (init.Many parts) = flat_map (λ us. us) parts

unfoldable pub init_uses : List FnFact → List Known → Init → List Use
init_uses fs ks = fold-Init (List Use) (init_step fs ks)

abbrev pub maybe_init : List FnFact → List Known → Option Init → List Use
maybe_init fs ks None = []
maybe_init fs ks (Some i) = init_uses fs ks i

-- ---- statements

-- what a statement uses, and the names behind it
abbrev pub Walk : Type 0
Walk = Names → List Use × Names

abbrev pub in_turn : List Walk → Walk
in_turn [] ns = ([], ns)
in_turn (s ∷ ss) ns = ((s ns).0 ++ (in_turn ss (s ns).1).0, (in_turn ss (s ns).1).1)

abbrev pub if_there : Option Walk → Walk
if_there None ns = ([], ns)
if_there (Some s) ns = s ns

-- Behind a block the names of its outside are known again.
abbrev pub scoped : Walk → Walk
scoped s ns = ((s ns).0, record { known = ns.known; locals = (s ns).1.locals; statics = (s ns).1.statics })

abbrev pub reads : (List Known → List Use) → Walk
reads uses ns = (uses ns.known, ns)

abbrev pub with_local : Word → Names → Names
with_local name ns = record { known = known name (Local ns.locals) ∷ ns.known; locals = suc ns.locals; statics = ns.statics }

-- A local is known in its own initialiser.
abbrev pub locals_walk : List FnFact → List Declarator → Walk
locals_walk fs [] ns = ([], ns)
locals_walk fs (d ∷ ds) ns =
    (maybe_init fs (with_local d.name ns).known d.init ++ (locals_walk fs ds (with_local d.name ns)).0, (locals_walk fs ds (with_local d.name ns)).1)

abbrev pub with_static : Word → Names → Names
with_static name ns = record { known = known name (Static ns.statics) ∷ ns.known; locals = ns.locals; statics = suc ns.statics }

-- The declaration of a static local names it. Its initialiser uses nothing, since it is a constant.
abbrev pub statics_walk : List Declarator → Walk
statics_walk [] ns = ([], ns)
statics_walk (d ∷ ds) ns =
    (Named ns.statics d.line ∷ (statics_walk ds (with_static d.name ns)).0, (statics_walk ds (with_static d.name ns)).1)

abbrev pub declare_walk : List FnFact → Bool → List Declarator → Walk
declare_walk fs true ds = statics_walk ds
declare_walk fs false ds = locals_walk fs ds

abbrev pub act_walk : List FnFact → Act-F Walk Walk → Walk
act_walk fs (act.Block ss) = scoped (in_turn ss)
act_walk fs (act.Set op place value) = reads (λ ks. uses_in fs ks place ++ uses_in fs ks value)
act_walk fs (act.Bump up prefix place) = reads (λ ks. uses_in fs ks place)
act_walk fs (act.Call e) = reads (λ ks. uses_in fs ks e)
act_walk fs (act.If c s other) = in_turn (reads (λ ks. uses_in fs ks c) ∷ scoped s ∷ scoped (if_there other) ∷ [])
act_walk fs (act.While c s) = in_turn (reads (λ ks. uses_in fs ks c) ∷ scoped s ∷ [])
act_walk fs (act.DoWhile s c) = in_turn (scoped s ∷ reads (λ ks. uses_in fs ks c) ∷ [])
act_walk fs (act.For first test next s) =
    scoped (in_turn (if_there first ∷ reads (λ ks. maybe_uses fs ks test) ∷ if_there next ∷ scoped s ∷ []))
act_walk fs (act.Return e) = reads (λ ks. maybe_uses fs ks e)
act_walk fs (act.Declare d) = declare_walk fs d.is_static d.names
act_walk fs _ = reads (λ ks. [])

unfoldable pub walk : List FnFact → Stmt → Walk
walk fs = fold-Stmt Walk Walk (act_walk fs) (λ s. s.node)

-- ---- the program

-- the parameters of a function, before the names of the file
unfoldable pub with_params : List Declarator → Names → Names
with_params [] ns = ns
with_params (d ∷ ds) ns = with_params ds (with_local d.name ns)

-- Parameters and the outermost block of a body are one scope.
unfoldable pub body_walk : List FnFact → List Declarator → List Stmt → Walk
body_walk fs params ss = scoped (λ ns. in_turn (map (walk fs) ss) (with_params params (record { known = ns.known; locals = 0; statics = ns.statics })))

-- the objects of a declaration at file level
unfoldable pub with_objects : List Declarator → Names → Names
with_objects [] ns = ns
with_objects (d ∷ ds) ns = with_objects ds (with_static d.name ns)

-- The uses of each function that items define, where the names of what stands before are known.
unfoldable pub bodies_from : List FnFact → Names → List Item → List (List Use)
bodies_from fs ns [] = []
bodies_from fs ns (item.Function is_static result name void_word params (Some ss) line second ∷ is) =
    (body_walk fs params ss ns).0 ∷ bodies_from fs (body_walk fs params ss ns).1 is
bodies_from fs ns (item.Variables d ∷ is) = bodies_from fs (with_objects d.names ns) is
bodies_from fs ns (i ∷ is) = bodies_from fs ns is

abbrev pub no_names : Names
no_names = record { known = []; locals = 0; statics = 0 }

-- the uses of each function, in the order of the definitions
unfoldable pub uses_of : Typed → List (List Use)
uses_of typed = bodies_from typed.functions no_names typed.program.items

-- ---- what uses give

-- a list for each use, with the number of its function, in the order of the source
unfoldable pub each_from : {A : Type 0} → (ℕ → Use → List A) → ℕ → List (List Use) → List A
each_from gives f [] = []
each_from gives f (us ∷ uss) = flat_map (gives f) us ++ each_from gives (suc f) uss

abbrev pub of_each : {A : Type 0} → (ℕ → Use → List A) → Typed → List A
of_each gives typed = each_from gives 0 (uses_of typed)
