use Rattle.std.proofs.Common.{◌≡◌, suc, length}
use Rattle.cl_parse_expr.specs.Reading.{expr_at}
use Rattle.cl_parse_stmt.specs.Declaring.{init_at, more_names}
use Rattle.cl_parse_stmt.proofs.declare.more_names.Given as goal

abbrev pub invariant-names : goal.invariant-names
invariant-names l = more_names l.allowed (init_at l.room (expr_at l.room)) l.base l.floating l.first (suc l.turns) l.done l.terminals ≡ more_names l.allowed (init_at l.room (expr_at l.room)) l.base l.floating l.first (suc (length l.start)) l.initial.done l.start

abbrev pub decreases-names : goal.decreases-names
decreases-names l = l.turns
