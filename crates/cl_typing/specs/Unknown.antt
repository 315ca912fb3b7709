-- E18: a name or a tag that is used isn't declared there, or a function that is called is never defined.
use Rattle.std.specs.Prelude.{ℕ, List, [], ◌∷◌, ◌++◌, map, Bool, true, Option, Some, None, option_map}
use Rattle.std.specs.List.{flat_map}
use Rattle.cl_tree.specs.declared.tree.CType.{CType}
use Rattle.cl_tree.specs.declared.tree.Expr.{Expr, fold-Expr}
use Rattle.cl_tree.specs.declared.tree.Node.{Node-F}
use Rattle.cl_tree.specs.declared.tree.Node.TheOpen as node
use Rattle.cl_tree.specs.declared.tree.Init.{Init, Init-F, fold-Init}
use Rattle.cl_tree.specs.declared.tree.Init.TheOpen as init
use Rattle.cl_tree.specs.declared.tree.Declarator.{Declarator}
use Rattle.cl_tree.specs.declared.tree.Declaration.{Declaration}
use Rattle.cl_tree.specs.declared.tree.Stmt.{Stmt, fold-Stmt}
use Rattle.cl_tree.specs.declared.tree.Act.{Act-F}
use Rattle.cl_tree.specs.declared.tree.Act.TheOpen as act
use Rattle.cl_tree.specs.declared.tree.Item.{Item}
use Rattle.cl_tree.specs.declared.tree.Item.TheVariants as item
use Rattle.cl_tree.specs.declared.tree.Program.{Program}
use Rattle.cl_tree.specs.Words.{Word}
use Rattle.cl_typing.specs.Rules.{Lines, unless, optional}
use Rattle.cl_typing.specs.Scope.{Entry, function, Env, meaning, is_bound, is_library, bound, with_names, Scoped, in_order, no_names, tag_of, env_after, tags_after, defined_in}

-- What is the same at all places of an item: the structs so far, and the functions that the program defines.
pub record Known : Type 0 where
  pub tags : Env
  pub defined : Env

-- a variable is to be declared; the three known functions are
abbrev pub is_name : Option Entry → Bool → Bool
is_name None library = library
is_name (Some entry) library = true

unfoldable pub is_known : Env → Word → Bool
is_known env name = is_name (meaning env name) (is_library name)

-- and a function that is called is to be defined; a variable that is called is of a wrong type
abbrev pub is_callee : Env → Word → Option Entry → Bool → Bool
is_callee defined name None library = library
is_callee defined name (Some (function result params)) library = is_bound defined name
is_callee defined name (Some _) library = true

unfoldable pub can_call : Env → Env → Word → Bool
can_call defined env name = is_callee defined name (meaning env name) (is_library name)

abbrev pub is_tag : Env → Option Word → Bool
is_tag tags None = true
is_tag tags (Some tag) = is_bound tags tag

-- the struct that a type names is declared
unfoldable pub has_tag : Env → CType → Bool
has_tag tags t = is_tag tags (tag_of t)

abbrev pub node_unknown : Known → Env → Node-F (ℕ → Lines) Lines → ℕ → Lines
node_unknown known env (node.Variable name) line = unless (is_known env name) line
node_unknown known env (node.Unary op e) line = e
node_unknown known env (node.Binary op a b) line = a ++ b
node_unknown known env (node.Choice c a b) line = c ++ (a ++ b)
node_unknown known env (node.Cast t e) line = unless (has_tag known.tags t) line ++ e
node_unknown known env (node.Call name arguments) line =
    unless (can_call known.defined env name) line ++ flat_map (λ ls. ls) arguments
node_unknown known env (node.Index a i) line = a ++ i
node_unknown known env (node.Member a name) line = a
node_unknown known env (node.Arrow a name) line = a
node_unknown known env (node.Paren e) line = e
node_unknown known env _ line = []

unfoldable pub expr_unknown : Known → Env → Expr → Lines
expr_unknown known env = fold-Expr (ℕ → Lines) Lines (node_unknown known env) (λ e. e.node e.line)

abbrev pub init_step : Known → Env → Init-F Lines → Lines
init_step known env (init.One e) = expr_unknown known env e
init_step known env (init.Many parts) = flat_map (λ ls. ls) parts

unfoldable pub init_unknown : Known → Env → Init → Lines
init_unknown known env = fold-Init Lines (init_step known env)

-- The place of a tag in a declaration is the name that is declared. A name is known in its own initialiser.
unfoldable pub declarator_unknown : Known → Env → Declarator → Lines
declarator_unknown known env d =
    unless (has_tag known.tags d.ctype) d.line ++ optional (option_map (init_unknown known (bound d ∷ env)) d.init)

unfoldable pub names_unknown : Known → Env → List Declarator → Lines
names_unknown known env [] = []
names_unknown known env (d ∷ ds) = declarator_unknown known env d ++ names_unknown known (bound d ∷ env) ds

abbrev pub optional_in : Option Scoped → Env → Lines
optional_in None env = []
optional_in (Some s) env = s.places env

-- the environment behind the first part of the head of a `for`
abbrev pub env_behind : Option Scoped → Env → Env
env_behind None env = env
env_behind (Some s) env = with_names s.declares env

-- A `for` with its body is a block: its declaration is known in the test, the step and the body.
abbrev pub for_unknown : Known → Option Scoped → Option Expr → Option Scoped → Scoped → Env → Lines
for_unknown known first test next body env =
    optional_in first env ++ (optional (option_map (expr_unknown known (env_behind first env)) test)
    ++ (optional_in next (env_behind first env) ++ body.places (env_behind first env)))

abbrev pub act_unknown : Known → Act-F Scoped Scoped → Scoped
act_unknown known (act.Block ss) = no_names (λ env. in_order ss env)
act_unknown known (act.Set op place value) =
    no_names (λ env. expr_unknown known env place ++ expr_unknown known env value)
act_unknown known (act.Bump up prefix place) = no_names (λ env. expr_unknown known env place)
act_unknown known (act.Call e) = no_names (λ env. expr_unknown known env e)
act_unknown known (act.If c s other) =
    no_names (λ env. expr_unknown known env c ++ (s.places env ++ optional_in other env))
act_unknown known (act.While c s) = no_names (λ env. expr_unknown known env c ++ s.places env)
act_unknown known (act.DoWhile s c) = no_names (λ env. s.places env ++ expr_unknown known env c)
act_unknown known (act.For first test next body) = no_names (λ env. for_unknown known first test next body env)
act_unknown known (act.Return e) = no_names (λ env. optional (option_map (expr_unknown known env) e))
act_unknown known (act.Declare d) = record { places = λ env. names_unknown known env d.names; declares = d.names }
act_unknown known _ = no_names (λ env. [])

unfoldable pub stmt_unknown : Known → Stmt → Scoped
stmt_unknown known = fold-Stmt Scoped Scoped (act_unknown known) (λ s. s.node)

-- Parameters and the outermost block of a body are one scope.
unfoldable pub body_unknown : Known → Env → List Declarator → Option (List Stmt) → Lines
body_unknown known env params None = []
body_unknown known env params (Some ss) = in_order (map (stmt_unknown known) ss) (with_names params env)

-- the tags of members or parameters
unfoldable pub types_unknown : Env → List Declarator → Lines
types_unknown tags ds = flat_map (λ d. unless (has_tag tags d.ctype) d.line) ds

-- a struct's own tag is known behind its item
unfoldable pub members_unknown : Env → List Declaration → Lines
members_unknown tags members = flat_map (λ m. types_unknown tags m.names) members

-- A function is known in its own body.
unfoldable pub item_unknown : Known → Env → Item → Lines
item_unknown known env (item.Struct name members line) = members_unknown known.tags members
item_unknown known env (item.Variables d) = names_unknown known env d.names
item_unknown known env (item.Function is_static result name void_word params body line second) =
    unless (has_tag known.tags result) second
    ++ (types_unknown known.tags params
    ++ body_unknown known
    (env_after (item.Function is_static result name void_word params body line second) env) params body)
item_unknown known env (item.Cle p line) = []

unfoldable pub items_unknown : Known → Env → List Item → Lines
items_unknown known env [] = []
items_unknown known env (i ∷ is) =
    item_unknown known env i ++ items_unknown (record known { tags = tags_after i known.tags }) (env_after i env) is

unfoldable pub unknown : Program → Lines
unknown program = items_unknown (record { tags = []; defined = defined_in program.items [] }) [] program.items
