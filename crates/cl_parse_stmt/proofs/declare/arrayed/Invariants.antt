use Rattle.std.proofs.Common.{◌≡◌, length}
use Rattle.cl_parse_stmt.specs.Declaring.{arrayed}
use Rattle.cl_parse_stmt.proofs.declare.arrayed.Given as goal

abbrev pub invariant-sizes : goal.invariant-sizes
invariant-sizes l = arrayed l.ctype l.sizes ≡ arrayed l.initial.ctype l.initial.sizes

abbrev pub decreases-sizes : goal.decreases-sizes
decreases-sizes l = length l.sizes
