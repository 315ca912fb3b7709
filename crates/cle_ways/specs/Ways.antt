-- The ways that labels go in a program: from where, and into which variable or result. Beside them, the bounds that the rules
-- E31 to E34 set to what is carried.
use Rattle.std.specs.Prelude.{ℕ, suc, Bool, true, false, ◌&&◌, nat_lt, List, [], ◌∷◌, ◌++◌, map, length, Option, Some, None, option_map, is_some, slice_get, slice_index_or, bytes_eq, codes, if◌then◌else◌}
use Rattle.std.specs.List.{flat_map}
use Rattle.cl_tree.specs.declared.tree.CType.{out-CType}
use Rattle.cl_tree.specs.declared.tree.Expr.{Expr, fold-Expr}
use Rattle.cl_tree.specs.declared.tree.Node.{Node-F}
use Rattle.cl_tree.specs.declared.tree.Node.TheOpen as node
use Rattle.cl_tree.specs.declared.tree.Init.{Init, Init-F, fold-Init}
use Rattle.cl_tree.specs.declared.tree.Init.TheOpen as init
use Rattle.cl_tree.specs.declared.kinds.BinOp.{BinOp}
use Rattle.cl_tree.specs.declared.tree.Declarator.{Declarator}
use Rattle.cl_tree.specs.declared.tree.Stmt.{Stmt, fold-Stmt}
use Rattle.cl_tree.specs.declared.tree.Act.{Act-F}
use Rattle.cl_tree.specs.declared.tree.Act.TheOpen as act
use Rattle.cl_tree.specs.declared.tree.Item.{Item}
use Rattle.cl_tree.specs.declared.tree.Item.TheVariants as item
use Rattle.cl_tree.specs.Words.{Word}
use Rattle.cl_mean.specs.declared.checked.FnFact.{FnFact}
use Rattle.cl_mean.specs.declared.checked.ObjFact.{ObjFact}
use Rattle.cl_mean.specs.declared.labels.Mention.{Mention}
use Rattle.cl_mean.specs.declared.labels.Mention.TheVariants.{Label, Level}
use Rattle.cl_mean.specs.declared.labels.Mentions.{Mentions}
use Rattle.cl_mean.specs.declared.labels.Taints.{Taints}
use Rattle.cl_mean.specs.Source.{taints_of}
use Rattle.cl_levels.specs.declared.uses.Variable.{Variable}
use Rattle.cl_levels.specs.declared.uses.Variable.TheVariants as variable
use Rattle.cl_levels.specs.Uses.{number_among, Known, variable_of, Names, no_names, with_local, with_static, with_params, with_objects}
use Rattle.cl_levels.specs.Levels.{function, object, label_of, no_fact}
use Rattle.cl_levels.specs.Crossings.{Levelled, level_of, label_fact, signatures_at, params_of, is_array}
use Rattle.cle_ways.specs.declared.ways.Holder.{Holder}
use Rattle.cle_ways.specs.declared.ways.Holder.TheVariants.{Object, Local, Result}
use Rattle.cle_ways.specs.declared.ways.Origin.{Origin}
use Rattle.cle_ways.specs.declared.ways.Origin.TheVariants.{Just, AllOf}
use Rattle.cle_ways.specs.declared.ways.Way.{Way}
use Rattle.cle_ways.specs.declared.ways.Admitted.{Admitted}
use Rattle.cle_ways.specs.declared.ways.Admitted.TheVariants.{Argument, Body, OfLevel, Own}
use Rattle.cle_ways.specs.declared.ways.Bound.{Bound}
use Rattle.cle_ways.specs.declared.ways.Note.{Note}
use Rattle.cle_ways.specs.declared.ways.Note.TheVariants.{Flows, Bounds}
use Rattle.cle_ways.specs.declared.ways.Body as body

-- ---- what is noted

abbrev pub way : Origin → Holder → Way
way o x = record { from = o; into = x }

-- what the origins give, the holder carries
abbrev pub into : Holder → List Origin → List Note
into x origins = map (λ o. Flows (way o x)) origins

-- what the origins give is to be admitted
abbrev pub bound : ℕ → List Origin → Admitted → ℕ → List Note
bound rule origins admitted line = Bounds (record { rule = rule; origins = origins; admitted = admitted; line = line }) ∷ []

-- ---- functions and variables

-- the taints of a function, if it is annotated
abbrev pub taints_at : Levelled → ℕ → Option Taints
taints_at l f = taints_of (label_fact l f)

abbrev pub is_annotated : Levelled → ℕ → Bool
is_annotated l f = is_some (taints_at l f)

abbrev pub params_at : Levelled → ℕ → List Declarator
params_at l f = params_of (signatures_at l.annotated f)

abbrev pub is_main_in : List FnFact → ℕ → Bool
is_main_in fs f = bytes_eq (slice_index_or fs f no_fact).name (codes "main")

abbrev pub is_main : Levelled → ℕ → Bool
is_main l f = is_main_in l.annotated.typed.functions f

-- the label of an object, if it is annotated
abbrev pub object_label : Levelled → ℕ → Option ℕ
object_label l k = label_of l.annotated (object k)

-- a variable that the body of a function sees
abbrev pub holder_of : ℕ → Variable → Holder
holder_of f (variable.Static k) = Object k
holder_of f (variable.Local k) = Local f k

-- In the body of a function, a parameter of an annotated one: it carries just its taints, and nothing is added to it.
abbrev pub is_closed : Levelled → ℕ → Variable → Bool
is_closed l f (variable.Static k) = false
is_closed l f (variable.Local k) = is_annotated l f && nat_lt k (length (params_at l f))

-- A store adds nothing to it: in the body of an annotated function a parameter or an annotated variable.
abbrev pub keeps : Levelled → ℕ → Variable → Bool
keeps l f (variable.Static k) = is_annotated l f && is_some (object_label l k)
keeps l f (variable.Local k) = is_closed l f (variable.Local k)

-- ---- expressions

-- Of an expression: its line, what it carries, the variable at its root if it names a place, what is noted of the calls in it,
-- and what is noted of it where it stands left of `=`, where it isn't read.
pub record Gist : Type 0 where
  pub line : ℕ
  pub origins : List Origin
  pub root : Option Variable
  pub notes : List Note
  pub place : List Note

-- no place
abbrev pub value : ℕ → List Origin → List Note → Gist
value line origins notes = record { line = line; origins = origins; root = None; notes = notes; place = notes }

-- a read of a variable carries what the variable carries
abbrev pub read : ℕ → Option Variable → List Origin
read f None = []
read f (Some v) = AllOf (holder_of f v) ∷ []

-- E33: what an expression in the body of an annotated function carries is among the function's taints. The parts of an
-- expression that it carries the labels of come behind it, so the first that fails is always one that is used by itself.
abbrev pub in_body : Levelled → ℕ → ℕ → List Origin → List Note
in_body l f line origins = if is_annotated l f then bound 33 origins (Body f) line else []

-- an expression that is used by itself: by a statement, as an argument, or as an index left of `=`
abbrev pub used : Levelled → ℕ → Gist → List Note
used l f g = g.notes ++ in_body l f g.line g.origins

-- What an argument carries, a parameter of an unannotated function carries; one of an annotated function admits just its taints (E31).
abbrev pub passed : Levelled → ℕ → ℕ → ℕ → List Origin → List Note
passed l callee line k origins =
    if is_annotated l callee then bound 31 origins (Argument callee k) line else into (Local callee k) origins

-- A variable that is passed as an array carries what the parameter carries, unless it is itself a parameter of an annotated function.
abbrev pub comes_back : Levelled → ℕ → ℕ → ℕ → Option Variable → List Note
comes_back l f callee k None = []
comes_back l f callee k (Some v) = if is_closed l f v then [] else into (holder_of f v) (AllOf (Local callee k) ∷ [])

abbrev pub if_array : Bool → List Note → List Note
if_array array back = if array then back else []

-- what is moved by an argument for a parameter, of which it is known whether it is an array
abbrev pub moved : Levelled → ℕ → ℕ → ℕ → ℕ → Option Bool → List Origin → Option Variable → List Note
moved l f callee line k None origins root = []
moved l f callee line k (Some array) origins root =
    passed l callee line k origins ++ if_array array (comes_back l f callee k root)

abbrev pub array_at : Levelled → ℕ → ℕ → Option Bool
array_at l callee k = option_map (λ d. is_array (out-CType d.ctype)) (slice_get (params_at l callee) k)

abbrev pub argument : Levelled → ℕ → ℕ → ℕ → ℕ → Gist → List Note
argument l f callee line k g = used l f g ++ moved l f callee line k (array_at l callee k) g.origins g.root

-- the arguments of a call of a function of the program, from the k-th on
abbrev pub arguments : Levelled → ℕ → ℕ → ℕ → ℕ → List Gist → List Note
arguments l f callee line k [] = []
arguments l f callee line k (g ∷ gs) = argument l f callee line k g ++ arguments l f callee line (suc k) gs

-- E34: what `printf` and `putchar` print has labels of the function's level.
abbrev pub printed : Levelled → ℕ → ℕ → Gist → List Note
printed l f line g = used l f g ++ bound 34 g.origins (OfLevel (level_of l f)) line

-- `getchar` carries the label of the function's level
abbrev pub library_origins : Levelled → ℕ → Word → List Origin
library_origins l f name = if bytes_eq name (codes "getchar") then Just (Level (level_of l f)) ∷ [] else []

-- A call of a function of the program carries what its result carries. Any other is of the library; `getchar` has no arguments.
abbrev pub call_origins : Levelled → ℕ → Word → Option ℕ → List Origin
call_origins l f name None = library_origins l f name
call_origins l f name (Some callee) = AllOf (Result callee) ∷ []

abbrev pub call_notes : Levelled → ℕ → ℕ → Option ℕ → List Gist → List Note
call_notes l f line None gs = flat_map (printed l f line) gs
call_notes l f line (Some callee) gs = arguments l f callee line 0 gs

abbrev pub called : Levelled → Word → Option ℕ
called l name = number_among l.annotated.typed.functions name

-- A read of a variable, element or member carries what its root carries, an operator what its operands carry; a condition
-- and an index of a read are operands. Literals carry nothing.
abbrev pub node_gist : Levelled → ℕ → List Known → Node-F (ℕ → Gist) Gist → ℕ → Gist
node_gist l f ks (node.Variable name) line =
    record { line = line; origins = read f (variable_of ks name); root = variable_of ks name; notes = []; place = [] }
node_gist l f ks (node.Unary op a) line = value line a.origins a.notes
node_gist l f ks (node.Binary op a b) line = value line (a.origins ++ b.origins) (a.notes ++ b.notes)
node_gist l f ks (node.Choice test a b) line = value line (test.origins ++ (a.origins ++ b.origins)) (test.notes ++ (a.notes ++ b.notes))
node_gist l f ks (node.Cast ctype a) line = value line a.origins a.notes
node_gist l f ks (node.Call name all) line = value line (call_origins l f name (called l name)) (call_notes l f line (called l name) all)
node_gist l f ks (node.Index a i) line =
    record { line = line; origins = a.origins ++ i.origins; root = a.root; notes = a.notes ++ i.notes; place = a.place ++ used l f i }
node_gist l f ks (node.Member a name) line = record { line = line; origins = a.origins; root = a.root; notes = a.notes; place = a.place }
node_gist l f ks (node.Arrow a name) line = record { line = line; origins = a.origins; root = a.root; notes = a.notes; place = a.place }
node_gist l f ks (node.Paren a) line = record { line = line; origins = a.origins; root = a.root; notes = a.notes; place = a.place }
node_gist l f ks _ line = value line [] []

unfoldable pub gist : Levelled → ℕ → List Known → Expr → Gist
gist l f ks = fold-Expr (ℕ → Gist) Gist (node_gist l f ks) (λ e. e.node e.line)

abbrev pub used_expr : Levelled → ℕ → List Known → Expr → List Note
used_expr l f ks e = used l f (gist l f ks e)

abbrev pub maybe_used : Levelled → ℕ → List Known → Option Expr → List Note
maybe_used l f ks None = []
maybe_used l f ks (Some e) = used_expr l f ks e

-- ---- statements

-- A store adds what the right side carries to the variable at the root of the left side.
abbrev pub stored : Levelled → ℕ → Option Variable → List Origin → List Note
stored l f None origins = []
stored l f (Some v) origins = if keeps l f v then [] else into (holder_of f v) origins

-- The place of `=` isn't read, but its indexes are; that of `op=` is.
abbrev pub place_notes : Levelled → ℕ → Option BinOp → Gist → List Note
place_notes l f None place = place.place
place_notes l f (Some op) place = used l f place

abbrev pub set_notes : Levelled → ℕ → Option BinOp → Gist → Gist → List Note
set_notes l f op place g = place_notes l f op place ++ (used l f g ++ stored l f place.root g.origins)

-- A call of an unannotated function carries what its `return` expressions carry.
abbrev pub returned : Levelled → ℕ → List Origin → List Note
returned l f origins = if is_annotated l f then [] else into (Result f) origins

-- E34: what `main` returns has labels of its level.
abbrev pub from_main : Levelled → ℕ → ℕ → List Origin → List Note
from_main l f line origins = if is_main l f then bound 34 origins (OfLevel (level_of l f)) line else []

abbrev pub return_notes : Levelled → ℕ → ℕ → Gist → List Note
return_notes l f line g = used l f g ++ (returned l f g.origins ++ from_main l f line g.origins)

abbrev pub maybe_return : Levelled → ℕ → List Known → ℕ → Option Expr → List Note
maybe_return l f ks line None = []
maybe_return l f ks line (Some e) = return_notes l f line (gist l f ks e)

-- The initialiser of a local adds what its expressions carry to that local.
abbrev pub started : Levelled → ℕ → Holder → Gist → List Note
started l f x g = used l f g ++ into x g.origins

abbrev pub init_step : Levelled → ℕ → List Known → Holder → Init-F (List Note) → List Note
init_step l f ks x (init.One e) = started l f x (gist l f ks e)
init_step l f ks x (init.Many parts) = flat_map (λ ns. ns) parts

unfoldable pub init_notes : Levelled → ℕ → List Known → Holder → Init → List Note
init_notes l f ks x = fold-Init (List Note) (init_step l f ks x)

abbrev pub maybe_init : Levelled → ℕ → List Known → Holder → Option Init → List Note
maybe_init l f ks x None = []
maybe_init l f ks x (Some i) = init_notes l f ks x i

-- what is noted of a statement, and the names behind it
abbrev pub Walk : Type 0
Walk = Names → List Note × Names

abbrev pub in_turn : List Walk → Walk
in_turn [] ns = ([], ns)
in_turn (s ∷ ss) ns = ((s ns).0 ++ (in_turn ss (s ns).1).0, (in_turn ss (s ns).1).1)

abbrev pub if_there : Option Walk → Walk
if_there None ns = ([], ns)
if_there (Some s) ns = s ns

-- Behind a block the names of its outside are known again.
abbrev pub scoped : Walk → Walk
scoped s ns = ((s ns).0, record { known = ns.known; locals = (s ns).1.locals; statics = (s ns).1.statics })

abbrev pub notes : (List Known → List Note) → Walk
notes of ns = (of ns.known, ns)

-- A local is known in its own initialiser.
abbrev pub locals_walk : Levelled → ℕ → List Declarator → Walk
locals_walk l f [] ns = ([], ns)
locals_walk l f (d ∷ ds) ns =
    (maybe_init l f (with_local d.name ns).known (Local f ns.locals) d.init ++ (locals_walk l f ds (with_local d.name ns)).0, (locals_walk l f ds (with_local d.name ns)).1)

-- The initialiser of a static local is a constant, and carries nothing.
abbrev pub statics_walk : List Declarator → Walk
statics_walk [] ns = ([], ns)
statics_walk (d ∷ ds) ns = statics_walk ds (with_static d.name ns)

abbrev pub declare_walk : Levelled → ℕ → Bool → List Declarator → Walk
declare_walk l f true ds = statics_walk ds
declare_walk l f false ds = locals_walk l f ds

abbrev pub act_walk : Levelled → ℕ → Act-F (ℕ → Walk) Walk → ℕ → Walk
act_walk l f (act.Block ss) line = scoped (in_turn ss)
act_walk l f (act.Set op place e) line = notes (λ ks. set_notes l f op (gist l f ks place) (gist l f ks e))
act_walk l f (act.Bump up prefix place) line = notes (λ ks. used_expr l f ks place)
act_walk l f (act.Call e) line = notes (λ ks. used_expr l f ks e)
act_walk l f (act.If test s other) line = in_turn (notes (λ ks. used_expr l f ks test) ∷ scoped s ∷ scoped (if_there other) ∷ [])
act_walk l f (act.While test s) line = in_turn (notes (λ ks. used_expr l f ks test) ∷ scoped s ∷ [])
act_walk l f (act.DoWhile s test) line = in_turn (scoped s ∷ notes (λ ks. used_expr l f ks test) ∷ [])
act_walk l f (act.For first test next s) line =
    scoped (in_turn (if_there first ∷ notes (λ ks. maybe_used l f ks test) ∷ if_there next ∷ scoped s ∷ []))
act_walk l f (act.Return e) line = notes (λ ks. maybe_return l f ks line e)
act_walk l f (act.Declare d) line = declare_walk l f d.is_static d.names
act_walk l f _ line = notes (λ ks. [])

unfoldable pub walk : Levelled → ℕ → Stmt → Walk
walk l f = fold-Stmt (ℕ → Walk) Walk (act_walk l f) (λ s. s.node s.line)

-- ---- the program

abbrev pub just : List Mention → List Origin
just ms = map Just ms

unfoldable pub params_carry : ℕ → ℕ → List Mentions → List Note
params_carry f k [] = []
params_carry f k (ms ∷ mss) = into (Local f k) (just ms.all) ++ params_carry f (suc k) mss

-- A parameter of an annotated function carries its taints, and so does the result.
abbrev pub taints_carried : ℕ → Option Taints → List Note
taints_carried f None = []
taints_carried f (Some t) = params_carry f 0 t.args ++ into (Result f) (just t.result)

-- Parameters and the outermost block of a body are one scope.
unfoldable pub body_walk : Levelled → ℕ → List Declarator → List Stmt → Walk
body_walk l f params ss =
    scoped (λ ns. in_turn (map (walk l f) ss) (with_params params (record { known = ns.known; locals = 0; statics = ns.statics })))

abbrev pub body_of : Levelled → ℕ → List Declarator → List Stmt → Names → body.Body
body_of l f params ss ns = record {
  notes = taints_carried f (taints_at l f) ++ (body_walk l f params ss ns).0;
  locals = (body_walk l f params ss ns).1.locals;
}

-- The functions that items define, from number f on, where the names of what stands before are known.
unfoldable pub bodies_from : Levelled → ℕ → Names → List Item → List body.Body
bodies_from l f ns [] = []
bodies_from l f ns (item.Function is_static result name void_word params (Some ss) line second ∷ is) =
    body_of l f params ss ns ∷ bodies_from l (suc f) (body_walk l f params ss ns).1 is
bodies_from l f ns (item.Variables d ∷ is) = bodies_from l f (with_objects d.names ns) is
bodies_from l f ns (i ∷ is) = bodies_from l f ns is

-- each function, in the order of the definitions
unfoldable pub bodies_of : Levelled → List body.Body
bodies_of l = bodies_from l 0 no_names l.annotated.typed.program.items

-- the level of an object
abbrev pub level_at : Levelled → ℕ → ℕ
level_at l k = slice_index_or l.levels.of_objects k 0

-- An annotated variable carries its label, and no other (E32).
abbrev pub labelled : ℕ → ℕ → ℕ → List Note
labelled k line label = into (Object k) (Just (Label label) ∷ []) ++ bound 32 (AllOf (Object k) ∷ []) (Own label) line

-- An unannotated variable of static duration carries the label of its level.
abbrev pub own_notes : Levelled → ℕ → ℕ → Option ℕ → List Note
own_notes l k line None = into (Object k) (Just (Level (level_at l k)) ∷ [])
own_notes l k line (Some label) = labelled k line label

unfoldable pub objects_from : Levelled → ℕ → List ObjFact → List Note
objects_from l k [] = []
objects_from l k (o ∷ os) = own_notes l k o.line (object_label l k) ++ objects_from l (suc k) os

unfoldable pub notes_of_objects : Levelled → List Note
notes_of_objects l = objects_from l 0 l.annotated.typed.objects

-- all that is noted of a program
abbrev pub notes_of : Levelled → List Note
notes_of l = notes_of_objects l ++ flat_map (λ b. b.notes) (bodies_of l)
