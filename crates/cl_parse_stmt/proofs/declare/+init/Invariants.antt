use Rattle.std.proofs.Common.{◌≡◌, ◌+◌, ◌*◌, length}
use Rattle.cl_parse_expr.specs.Reading.{expr_at}
use Rattle.cl_parse_stmt.specs.Declaring.{init_at, more_inits}
use Rattle.cl_parse_stmt.proofs.declare.+init.Given as goal

abbrev pub decreases-init_at : goal.decreases-init_at
decreases-init_at l = 4 * l.deep

abbrev pub decreases-braced_at : goal.decreases-braced_at
decreases-braced_at l = 4 * l.deep + 2

abbrev pub decreases-more_inits : goal.decreases-more_inits
decreases-more_inits l = 4 * l.deep + 1

abbrev pub invariant-more_inits-parts : goal.invariant-more_inits-parts
invariant-more_inits-parts l = more_inits (init_at l.deep (expr_at l.room)) l.turns l.done l.terminals ≡ more_inits (init_at l.deep (expr_at l.room)) (length l.start) l.initial.done l.start

abbrev pub decreases-more_inits-parts : goal.decreases-more_inits-parts
decreases-more_inits-parts l = l.turns
