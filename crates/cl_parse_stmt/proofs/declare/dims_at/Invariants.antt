use Rattle.std.proofs.Common.{◌≡◌, length, []}
use Rattle.cl_parse_stmt.specs.Declaring.{dims_at}
use Rattle.cl_parse_stmt.proofs.declare.dims_at.Given as goal

abbrev pub invariant-dims : goal.invariant-dims
invariant-dims l = dims_at l.turns l.done l.terminals ≡ dims_at (length l.start) [] l.start

abbrev pub decreases-dims : goal.decreases-dims
decreases-dims l = l.turns
