use Rattle.std.proofs.Common.{◌≡◌, length}
use Rattle.cl_parse_expr.specs.Reading.{expr_at}
use Rattle.cl_parse_stmt.specs.Declaring.{init_at}
use Rattle.cl_parse_stmt.specs.Itemising.{more_parameters}
use Rattle.cl_parse_stmt.proofs.item.more_parameters.Given as goal

abbrev pub invariant-parameters : goal.invariant-parameters
invariant-parameters l = more_parameters (init_at l.room (expr_at l.room)) l.first l.turns l.done l.terminals ≡ more_parameters (init_at l.room (expr_at l.room)) l.first (length l.start) l.initial.done l.start

abbrev pub decreases-parameters : goal.decreases-parameters
decreases-parameters l = l.turns
