-- E20: a rule of types fails.
use Rattle.std.specs.Prelude.{ℕ, List, [], ◌∷◌, ◌++◌, map, length, Bool, true, false, ◌||◌, ◌&&◌, not, nat_le, Option, Some, None}
use Rattle.std.specs.List.{flat_map}
use Rattle.cl_tree.specs.declared.kinds.BinOp.{BinOp}
use Rattle.cl_tree.specs.declared.tree.CType.{CType, CType-F, out-CType}
use Rattle.cl_tree.specs.declared.tree.CType.TheOpen as ctype
use Rattle.cl_tree.specs.declared.tree.Expr.{Expr}
use Rattle.cl_tree.specs.declared.tree.Init.{Init, Init-F, fold-Init}
use Rattle.cl_tree.specs.declared.tree.Init.TheOpen as init
use Rattle.cl_tree.specs.declared.tree.Declarator.{Declarator}
use Rattle.cl_tree.specs.declared.tree.Declaration.{Declaration}
use Rattle.cl_tree.specs.declared.tree.Stmt.{Stmt, fold-Stmt}
use Rattle.cl_tree.specs.declared.tree.Act.{Act-F}
use Rattle.cl_tree.specs.declared.tree.Act.TheOpen as act
use Rattle.cl_tree.specs.declared.tree.Item.{Item}
use Rattle.cl_tree.specs.declared.tree.Item.TheVariants as item
use Rattle.cl_tree.specs.declared.tree.Program.{Program}
use Rattle.cl_typing.specs.Rules.{Lines, unless}
use Rattle.cl_typing.specs.Scope.{Field, Entry, function, Env, meaning, bound, with_names, members_of, types_of, env_after, tags_after}
use Rattle.cl_typing.specs.Types.{Judged, judged, takes, place_takes, is_integer, is_void, is_object_type, is_result_type, same_type, call_right, is_settled}

-- ---- initialisers

-- the types of an array's elements or a struct's members, as far as there are parts
unfoldable pub all_fit : CType → List (CType → Bool) → Bool
all_fit t [] = true
all_fit t (fits ∷ rest) = fits t && all_fit t rest

unfoldable pub members_fit : List Field → List (CType → Bool) → Bool
members_fit members [] = true
members_fit [] (fits ∷ rest) = false
members_fit (d ∷ ds) (fits ∷ rest) = fits d.ctype && members_fit ds rest

abbrev pub struct_fits : Option (List Field) → List (CType → Bool) → Bool
struct_fits None parts = false
struct_fits (Some members) parts = members_fit members parts

-- Braces initialise structs and arrays, with at most as many parts as there are.
abbrev pub braces_fit : Env → CType-F CType → List (CType → Bool) → Bool
braces_fit tags (ctype.Array t n) parts = nat_le (length parts) n && all_fit t parts
braces_fit tags (ctype.Struct tag) parts = struct_fits (members_of tags tag) parts
braces_fit tags _ parts = false

-- What an object of static duration starts with is settled before the run.
abbrev pub init_step : Env → Env → Bool → Init-F (CType → Bool) → CType → Bool
init_step tags env is_static (init.One e) t = takes t (judged tags env e) && (not is_static || is_settled e)
init_step tags env is_static (init.Many parts) t = braces_fit tags (out-CType t) parts

unfoldable pub init_fits : Env → Env → Bool → Init → CType → Bool
init_fits tags env is_static = fold-Init (CType → Bool) (init_step tags env is_static)

abbrev pub may_start : Env → Env → Bool → CType → Option Init → Bool
may_start tags env is_static t None = true
may_start tags env is_static t (Some i) = init_fits tags env is_static i t

-- ---- declarations

-- A name is known in its own initialiser. Here `second` is the line of the first token of the item or the innermost
-- statement.
abbrev pub name_wrong : Env → Env → Bool → Declarator → Lines
name_wrong tags env is_static d =
    unless (is_object_type d.ctype && may_start tags (bound d ∷ env) is_static d.ctype d.init) d.second

unfoldable pub names_wrong : Env → Env → Bool → List Declarator → Lines
names_wrong tags env is_static [] = []
names_wrong tags env is_static (d ∷ ds) =
    name_wrong tags env is_static d ++ names_wrong tags (bound d ∷ env) is_static ds

-- members and parameters
unfoldable pub types_wrong : List Declarator → Lines
types_wrong ds = flat_map (λ d. unless (is_object_type d.ctype) d.second) ds

unfoldable pub members_wrong : List Declaration → Lines
members_wrong members = flat_map (λ m. types_wrong m.names) members

-- ---- statements

-- what is the same in all of a function
pub record Inside : Type 0 where
  pub tags : Env
  pub result : CType

-- The left side of a store is a place. `=` takes what the place takes, which is no array; the operators of the others
-- have integers alone.
abbrev pub set_fits : Option BinOp → Judged → Judged → Bool
set_fits None place v = place.is_place && place_takes place v
set_fits (Some op) place v = place.is_place && (is_integer place && is_integer v)

abbrev pub return_fits : Inside → Env → Option Expr → Bool
return_fits inside env None = is_void inside.result
return_fits inside env (Some e) = takes inside.result (judged inside.tags env e)

abbrev pub test_fits : Inside → Env → Option Expr → Bool
test_fits inside env None = true
test_fits inside env (Some e) = is_integer (judged inside.tags env e)

-- What is to be known of a statement: its places in an environment, inside or outside of a loop; what it declares; and
-- its place where it may not stand in the head of a `for`.
pub record Scoped : Type 0 where
  pub places : Env → Bool → Lines
  pub declares : List Declarator
  pub as_head : Lines

unfoldable pub in_order : List Scoped → Env → Bool → Lines
in_order [] env loops = []
in_order (s ∷ ss) env loops = s.places env loops ++ in_order ss (with_names s.declares env) loops

abbrev pub optional_in : Option Scoped → Env → Bool → Lines
optional_in None env loops = []
optional_in (Some s) env loops = s.places env loops

-- the first part of the head of a `for`
abbrev pub head_in : Option Scoped → Env → Bool → Lines
head_in None env loops = []
head_in (Some s) env loops = s.as_head ++ s.places env loops

abbrev pub env_behind : Option Scoped → Env → Env
env_behind None env = env
env_behind (Some s) env = with_names s.declares env

abbrev pub no_names : (Env → Bool → Lines) → Scoped
no_names places = record { places = places; declares = []; as_head = [] }

-- `++` and `--`
abbrev pub bump_fits : Judged → Bool
bump_fits place = place.is_place && is_integer place

-- a statement of its own, that is right where the condition holds
abbrev pub if_right : (Env → Bool → Bool) → ℕ → Scoped
if_right right line = no_names (λ env loops. unless (right env loops) line)

abbrev pub integer_in : Inside → Env → Expr → Bool
integer_in inside env e = is_integer (judged inside.tags env e)

-- A `for` with its body is a block: its declaration is known in the test, the step and the body.
abbrev pub for_wrong : Inside → Option Scoped → Option Expr → Option Scoped → Scoped → ℕ → Env → Bool → Lines
for_wrong inside first test next body line env loops =
    unless (test_fits inside (env_behind first env) test) line
    ++ (head_in first env loops ++ (optional_in next (env_behind first env) loops
    ++ body.places (env_behind first env) true))

-- One level of a statement, of which the line is given. A statement stands before its parts.
abbrev pub act_wrong : Inside → Act-F (ℕ → Scoped) Scoped → ℕ → Scoped
act_wrong inside (act.Block ss) line = no_names (λ env loops. in_order ss env loops)
act_wrong inside (act.Set op place v) line =
    if_right (λ env loops. set_fits op (judged inside.tags env place) (judged inside.tags env v)) line
act_wrong inside (act.Bump up prefix place) line =
    if_right (λ env loops. bump_fits (judged inside.tags env place)) line
act_wrong inside (act.Call e) line = if_right (λ env loops. call_right inside.tags env e) line
act_wrong inside (act.If c s other) line =
    no_names (λ env loops. unless (integer_in inside env c) line ++ (s.places env loops ++ optional_in other env loops))
act_wrong inside (act.While c s) line =
    no_names (λ env loops. unless (integer_in inside env c) line ++ s.places env true)
act_wrong inside (act.DoWhile s c) line =
    no_names (λ env loops. unless (integer_in inside env c) line ++ s.places env true)
act_wrong inside (act.For first test next body) line =
    no_names (λ env loops. for_wrong inside first test next body line env loops)
act_wrong inside (act.Return e) line = if_right (λ env loops. return_fits inside env e) line
act_wrong inside act.Break line = if_right (λ env loops. loops) line
act_wrong inside act.Continue line = if_right (λ env loops. loops) line
act_wrong inside (act.Declare d) line =
    record {
      places = λ env loops. names_wrong inside.tags env d.is_static d.names;
      declares = d.names;
      as_head = unless (not d.is_static) line;
    }
act_wrong inside _ line = no_names (λ env loops. [])

unfoldable pub stmt_wrong : Inside → Stmt → Scoped
stmt_wrong inside = fold-Stmt (ℕ → Scoped) Scoped (act_wrong inside) (λ s. s.node s.line)

-- ---- items

unfoldable pub same_types : List CType → List CType → Bool
same_types [] [] = true
same_types (t ∷ ts) (u ∷ us) = same_type t u && same_types ts us
same_types _ _ = false

-- All declarations of a function agree, each with the one before.
unfoldable pub agrees : Option Entry → CType → List CType → Bool
agrees (Some (function result params)) r ps = same_type result r && same_types params ps
agrees _ r ps = true

unfoldable pub body_wrong : Inside → Env → List Declarator → Option (List Stmt) → Lines
body_wrong inside env params None = []
body_wrong inside env params (Some ss) = in_order (map (stmt_wrong inside) ss) (with_names params env) false

unfoldable pub item_wrong : Env → Env → Item → Lines
item_wrong tags env (item.Struct name members line) = members_wrong members
item_wrong tags env (item.Variables d) = names_wrong tags env true d.names
item_wrong tags env (item.Function is_static result name void_word params body line second) =
    unless (is_result_type result && agrees (meaning env name) result (types_of params)) line
    ++ (types_wrong params
    ++ body_wrong (record { tags = tags; result = result })
    (env_after (item.Function is_static result name void_word params body line second) env) params body)
item_wrong tags env (item.Cle p line) = []

unfoldable pub items_wrong : Env → Env → List Item → Lines
items_wrong tags env [] = []
items_wrong tags env (i ∷ is) = item_wrong tags env i ++ items_wrong (tags_after i tags) (env_after i env) is

unfoldable pub wrong : Program → Lines
wrong program = items_wrong [] [] program.items
