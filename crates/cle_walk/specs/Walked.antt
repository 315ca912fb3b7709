-- Parts of the walk over a program.
use Rattle.std.specs.Prelude.{ℕ, List, [], ◌∷◌, Option, Some, option_map}
use Rattle.cl_tree.specs.declared.tree.Expr.{Expr}
use Rattle.cl_tree.specs.declared.tree.Stmt.{Stmt}
use Rattle.cl_tree.specs.declared.tree.Item.{Item}
use Rattle.cl_tree.specs.declared.tree.Item.TheVariants as item
use Rattle.cl_levels.specs.Uses.{Names, with_objects}
use Rattle.cl_levels.specs.Crossings.{Levelled}
use Rattle.cle_ways.specs.declared.ways.Body as body
use Rattle.cle_ways.specs.Ways.{Walk, walk, in_turn, if_there, scoped, notes, maybe_used, body_of, body_walk}

abbrev pub for_walk : Levelled → ℕ → Option Stmt → Option Expr → Option Stmt → Stmt → Walk
for_walk l f first test next s = scoped (in_turn (if_there (option_map (walk l f) first)
    ∷ notes (λ ks. maybe_used l f ks test) ∷ if_there (option_map (walk l f) next) ∷ scoped (walk l f s) ∷ []))

-- what is noted of the function that an item defines, and the names behind the item
unfoldable pub item_body : Levelled → ℕ → Names → Item → List body.Body
item_body l f ns (item.Function is_static result name void_word params (Some ss) line second) = body_of l f params ss ns ∷ []
item_body l f ns _ = []

unfoldable pub names_after : Levelled → ℕ → Names → Item → Names
names_after l f ns (item.Function is_static result name void_word params (Some ss) line second) = (body_walk l f params ss ns).1
names_after l f ns (item.Variables d) = with_objects d.names ns
names_after l f ns _ = ns
