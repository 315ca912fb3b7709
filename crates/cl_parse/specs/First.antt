-- The first item of terminals: how long it is, and whether it ends in a `)`.
use Rattle.std.specs.Prelude.{ℕ, suc, List, [], ◌∷◌, Bool, if◌then◌else◌}
use Rattle.cl_tree.specs.declared.grammar.Terminal.{Terminal}
use Rattle.cl_tree.specs.Items.{Bracket, effect, open_after, ends_here, is_close}

unfoldable pub first_length : List Bracket → Bool → List Terminal → ℕ
first_length bs after [] = 0
first_length bs after (p ∷ ps) = suc (if ends_here bs (effect after p.what) ps then 0 else first_length (open_after bs (effect after p.what)) (is_close p.what) ps)

unfoldable pub first_closes : List Bracket → Bool → List Terminal → Bool
first_closes bs after [] = after
first_closes bs after (p ∷ ps) = if ends_here bs (effect after p.what) ps then is_close p.what else first_closes (open_after bs (effect after p.what)) (is_close p.what) ps
