use Rattle.std.proofs.Common.{◌≡◌, ℕ, List, drop}
use Rattle.cl_scope.specs.Table.{place_at}
use Rattle.cl_levels.specs.Uses.{number_from}
use Rattle.cl_uses.specs.Numbers.{either}
use Rattle.cl_uses.proofs.functions.numbers.Given as goal

abbrev pub invariant-loop-number : goal.invariant-loop-number
invariant-loop-number l =
    (q : List ℕ) → either (place_at l.first q) (number_from l.number (drop l.number l.all) q) ≡ number_from 0 l.all q
