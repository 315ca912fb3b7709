use Rattle.std.proofs.Common.{◌≡◌, length}
use Rattle.cl_parse_stmt.specs.Itemising.{terminals_come}
use Rattle.cl_parse_stmt.proofs.whole.terminals_come.Given as goal

abbrev pub invariant-loop-terminals : goal.invariant-loop-terminals
invariant-loop-terminals l = terminals_come l.terminals ≡ terminals_come l.initial.terminals

abbrev pub decreases-loop-terminals : goal.decreases-loop-terminals
decreases-loop-terminals l = length l.terminals
