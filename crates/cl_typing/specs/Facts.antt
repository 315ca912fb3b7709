-- E22, and the facts that are kept of a program: its functions, and its objects of static duration.
use Rattle.std.specs.Prelude.{ℕ, suc, List, [], ◌∷◌, ◌++◌, map, Bool, true, false, ◌||◌, ◌&&◌, Option, Some, None, bytes_eq, codes}
use Rattle.std.specs.List.{flat_map, list_any}
use Rattle.cl_tree.specs.declared.kinds.IntKind.TheVariants.{I32}
use Rattle.cl_tree.specs.declared.kinds.IntKind.{IntKind}
use Rattle.cl_tree.specs.declared.token.Pragma.{Pragma}
use Rattle.cl_tree.specs.declared.token.Pragma.TheVariants as pragma
use Rattle.cl_tree.specs.declared.tree.Declarator.{Declarator}
use Rattle.cl_tree.specs.declared.tree.Stmt.{Stmt, fold-Stmt}
use Rattle.cl_tree.specs.declared.tree.Act.{Act-F}
use Rattle.cl_tree.specs.declared.tree.Act.TheOpen as act
use Rattle.cl_tree.specs.declared.tree.Item.{Item}
use Rattle.cl_tree.specs.declared.tree.Item.TheVariants as item
use Rattle.cl_tree.specs.declared.tree.Program.{Program}
use Rattle.cl_mean.specs.declared.checked.FnFact.{FnFact}
use Rattle.cl_mean.specs.declared.checked.ObjFact.{ObjFact}
use Rattle.cl_mean.specs.Source.{statics_in}
use Rattle.cl_typing.specs.Types.{kind_of, same_kind}
use Rattle.cl_typing.specs.Rules.{Lines, unless}

-- The function that an item defines, where the item has the given place. A function's line is its name's.
unfoldable pub function_facts : ℕ → Item → List FnFact
function_facts place (item.Function is_static result name void_word params (Some ss) line second) =
    record { name = name; item = place; line = second } ∷ []
function_facts place _ = []

unfoldable pub functions_from : ℕ → List Item → List FnFact
functions_from place [] = []
functions_from place (i ∷ is) = function_facts place i ++ functions_from (suc place) is

unfoldable pub functions_of : Program → List FnFact
functions_of program = functions_from 0 program.items

abbrev pub object_fact : Option ℕ → ℕ → Declarator → ObjFact
object_fact owner place d = record { name = d.name; ctype = d.ctype; owner = owner; item = place; line = d.line }

-- The objects of static duration of an item that has the given place; a function that is defined has the given number.
unfoldable pub object_facts : ℕ → ℕ → Item → List ObjFact
object_facts place number (item.Variables d) = map (object_fact None place) d.names
object_facts place number (item.Function is_static result name void_word params (Some ss) line second) =
    map (object_fact (Some number) place) (flat_map statics_in ss)
object_facts place number _ = []

-- the number of the next function that is defined
unfoldable pub number_after : ℕ → Item → ℕ
number_after number (item.Function is_static result name void_word params (Some ss) line second) = suc number
number_after number _ = number

unfoldable pub objects_from : ℕ → ℕ → List Item → List ObjFact
objects_from place number [] = []
objects_from place number (i ∷ is) = object_facts place number i ++ objects_from (suc place) (number_after number i) is

unfoldable pub objects_of : Program → List ObjFact
objects_of program = objects_from 0 0 program.items

-- ---- E22

abbrev pub is_int : Option IntKind → Bool
is_int None = false
is_int (Some kind) = same_kind kind I32

abbrev pub none : List Declarator → Bool
none [] = true
none _ = false

-- a definition of `main` with the result `int` and no parameters
unfoldable pub is_main : Item → Bool
is_main (item.Function is_static result name void_word params (Some ss) line second) =
    bytes_eq name (codes "main") && (is_int (kind_of result) && none params)
is_main _ = false

abbrev pub is_def : Pragma → Bool
is_def (pragma.Def name text) = true
is_def _ = false

unfoldable pub any : List Bool → Bool
any [] = false
any (b ∷ bs) = b || any bs

abbrev pub maybe_any : Option Bool → Bool
maybe_any None = false
maybe_any (Some b) = b

abbrev pub act_defines : Act-F Bool Bool → Bool
act_defines (act.Block ss) = any ss
act_defines (act.If c s other) = s || maybe_any other
act_defines (act.While c s) = s
act_defines (act.DoWhile s c) = s
act_defines (act.For first test next s) = s
act_defines (act.Cle p) = is_def p
act_defines _ = false

unfoldable pub stmt_defines : Stmt → Bool
stmt_defines = fold-Stmt Bool Bool act_defines (λ s. s.node)

unfoldable pub body_defines : Option (List Stmt) → Bool
body_defines None = false
body_defines (Some ss) = any (map stmt_defines ss)

-- a definition of a label
unfoldable pub item_defines : Item → Bool
item_defines (item.Function is_static result name void_word params body line second) = body_defines body
item_defines (item.Cle p line) = is_def p
item_defines _ = false

unfoldable pub no_main : Program → Lines
no_main program = unless (list_any is_main program.items && list_any item_defines program.items) 1
