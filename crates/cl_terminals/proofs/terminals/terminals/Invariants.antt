use Rattle.std.proofs.Common.{◌≡◌, ◌++◌, false, length}
use Rattle.cl_tree.specs.Runs.{terminals_from}
use Rattle.cl_terminals.proofs.terminals.terminals.Given as goal

abbrev pub invariant-tokens : goal.invariant-tokens
invariant-tokens l = l.done ++ terminals_from l.within l.rest ≡ terminals_from false l.tokens

abbrev pub decreases-tokens : goal.decreases-tokens
decreases-tokens l = length l.rest
