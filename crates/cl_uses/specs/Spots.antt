-- Parts of the walk over a program.
use Rattle.std.specs.Prelude.{ℕ, ◌-◌, List, [], ◌∷◌, length, drop, Option, Some, option_map}
use Rattle.cl_tree.specs.declared.tree.Expr.{Expr}
use Rattle.cl_tree.specs.declared.tree.Stmt.{Stmt}
use Rattle.cl_tree.specs.declared.tree.Item.{Item}
use Rattle.cl_tree.specs.declared.tree.Item.TheVariants as item
use Rattle.cl_mean.specs.declared.checked.FnFact.{FnFact}
use Rattle.cl_levels.specs.declared.uses.Use.{Use}
use Rattle.cl_levels.specs.Uses.{Names, Walk, walk, in_turn, if_there, scoped, reads, maybe_uses, body_walk, with_objects}

-- Behind the scopes that were entered when there were `start` variables.
abbrev pub left_to : ℕ → Names → Names
left_to start ns = record { known = drop (length ns.known - start) ns.known; locals = ns.locals; statics = ns.statics }

-- at the start of a function
abbrev pub in_function : Names → Names
in_function ns = record { known = ns.known; locals = 0; statics = ns.statics }

abbrev pub for_walk : List FnFact → Option Stmt → Option Expr → Option Stmt → Stmt → Walk
for_walk fs first test next body = scoped (in_turn (if_there (option_map (walk fs) first)
    ∷ reads (λ ks. maybe_uses fs ks test) ∷ if_there (option_map (walk fs) next) ∷ scoped (walk fs body) ∷ []))

-- the uses of the function that an item defines, and the names behind the item
unfoldable pub item_uses : List FnFact → Names → Item → List (List Use)
item_uses fs ns (item.Function is_static result name void_word params (Some ss) line second) = (body_walk fs params ss ns).0 ∷ []
item_uses fs ns _ = []

unfoldable pub names_after : List FnFact → Names → Item → Names
names_after fs ns (item.Function is_static result name void_word params (Some ss) line second) = (body_walk fs params ss ns).1
names_after fs ns (item.Variables d) = with_objects d.names ns
names_after fs ns _ = ns
