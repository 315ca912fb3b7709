-- E19: a name is declared a second time in its scope.
use Rattle.std.specs.Prelude.{List, [], ◌∷◌, ◌++◌, map, Bool, true, false, ◌||◌, ◌&&◌, not, Option, Some, None, option_map}
use Rattle.cl_tree.specs.declared.tree.Declarator.{Declarator}
use Rattle.cl_tree.specs.declared.tree.Declaration.{Declaration}
use Rattle.cl_tree.specs.declared.tree.Stmt.{Stmt, fold-Stmt}
use Rattle.cl_tree.specs.declared.tree.Act.{Act-F}
use Rattle.cl_tree.specs.declared.tree.Act.TheOpen as act
use Rattle.cl_tree.specs.declared.tree.Item.{Item}
use Rattle.cl_tree.specs.declared.tree.Item.TheVariants as item
use Rattle.cl_tree.specs.declared.tree.Program.{Program}
use Rattle.cl_tree.specs.Words.{Word}
use Rattle.cl_typing.specs.Rules.{Lines, unless, optional}
use Rattle.cl_typing.specs.Scope.{Env, Entry, variable, meaning, is_bound, is_library, bound, with_names, Scoped, in_order, no_names, env_after, tags_after, defined_after}

-- Declarators in a scope that has these names already.
abbrev pub name_twice : Env → Declarator → Lines
name_twice scope d = unless (not (is_library d.name || is_bound scope d.name)) d.line

unfoldable pub names_twice : Env → List Declarator → Lines
names_twice scope [] = []
names_twice scope (d ∷ ds) = name_twice scope d ++ names_twice (bound d ∷ scope) ds

-- A statement that is a part of another is a scope of its own.
abbrev pub own : Scoped → Lines
own s = s.places []

abbrev pub act_twice : Act-F Scoped Scoped → Scoped
act_twice (act.Block ss) = no_names (λ scope. in_order ss [])
act_twice (act.If c s other) = no_names (λ scope. own s ++ optional (option_map own other))
act_twice (act.While c s) = no_names (λ scope. own s)
act_twice (act.DoWhile s c) = no_names (λ scope. own s)
act_twice (act.For first test next body) =
    no_names (λ scope. optional (option_map own first) ++ (optional (option_map own next) ++ own body))
act_twice (act.Declare d) = record { places = λ scope. names_twice scope d.names; declares = d.names }
act_twice _ = no_names (λ scope. [])

unfoldable pub stmt_twice : Stmt → Scoped
stmt_twice = fold-Stmt Scoped Scoped act_twice (λ s. s.node)

-- Parameters and the outermost block of a body are one scope.
unfoldable pub body_twice : List Declarator → Option (List Stmt) → Lines
body_twice params None = []
body_twice params (Some ss) = in_order (map stmt_twice ss) (with_names params [])

-- members are a scope of their own, and may have any name
abbrev pub field_twice : Env → Declarator → Lines
field_twice scope d = unless (not (is_bound scope d.name)) d.line

unfoldable pub fields_twice : Env → List Declarator → Lines
fields_twice scope [] = []
fields_twice scope (d ∷ ds) = field_twice scope d ++ fields_twice (bound d ∷ scope) ds

unfoldable pub members_twice : Env → List Declaration → Lines
members_twice scope [] = []
members_twice scope (m ∷ ms) = fields_twice scope m.names ++ members_twice (with_names m.names scope) ms

-- what the items so far declare: names, tags, and the functions that are defined
pub record Declared : Type 0 where
  pub names : Env
  pub tags : Env
  pub defined : Env

-- A function may be declared again, but not as something else, and not be defined again.
abbrev pub is_free : Option Entry → Bool
is_free (Some (variable t)) = false
is_free _ = true

abbrev pub not_again : Declared → Word → Option (List Stmt) → Bool
not_again so name None = true
not_again so name (Some body) = not (is_bound so.defined name)

abbrev pub function_fits : Declared → Word → Option (List Stmt) → Bool
function_fits so name body = not (is_library name) && (is_free (meaning so.names name) && not_again so name body)

unfoldable pub item_twice : Declared → Item → Lines
item_twice so (item.Struct name members line) = unless (not (is_bound so.tags name)) line ++ members_twice [] members
item_twice so (item.Variables d) = names_twice so.names d.names
item_twice so (item.Function is_static result name void_word params body line second) =
    unless (function_fits so name body) second ++ (names_twice [] params ++ body_twice params body)
item_twice so (item.Cle p line) = []

abbrev pub declared_after : Declared → Item → Declared
declared_after so i =
    record { names = env_after i so.names; tags = tags_after i so.tags; defined = defined_after i so.defined }

unfoldable pub items_twice : Declared → List Item → Lines
items_twice so [] = []
items_twice so (i ∷ is) = item_twice so i ++ items_twice (declared_after so i) is

unfoldable pub twice : Program → Lines
twice program = items_twice (record { names = []; tags = []; defined = [] }) program.items
