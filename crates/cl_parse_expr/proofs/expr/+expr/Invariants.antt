use Rattle.std.proofs.Common.{◌≡◌, ℕ, suc, ◌+◌, ◌*◌, length}
use Rattle.cl_parse_expr.specs.Reading.{more_at, loop_of, expr_at}
use Rattle.cl_parse_expr.proofs.expr.+expr.Given as goal

abbrev pub decreases-expr_at : goal.decreases-expr_at
decreases-expr_at l = 6 * l.room

abbrev pub decreases-head_at : goal.decreases-head_at
decreases-head_at l = 6 * l.room + 5

abbrev pub decreases-word_at : goal.decreases-word_at
decreases-word_at l = 6 * l.room + 3

abbrev pub decreases-start_at : goal.decreases-start_at
decreases-start_at l = 6 * l.room + 3

abbrev pub decreases-cast_at : goal.decreases-cast_at
decreases-cast_at l = 6 * l.room + 2

abbrev pub decreases-paren_at : goal.decreases-paren_at
decreases-paren_at l = 6 * l.room + 2

abbrev pub decreases-args_at : goal.decreases-args_at
decreases-args_at l = 6 * l.room + 2

abbrev pub decreases-more_at : goal.decreases-more_at
decreases-more_at l = 6 * l.room + 1

abbrev pub decreases-climb : goal.decreases-climb
decreases-climb l = 6 * l.room + 2

abbrev pub decreases-grow : goal.decreases-grow
decreases-grow l = 6 * l.room + 1

abbrev pub invariant-more_at-commas : goal.invariant-more_at-commas
invariant-more_at-commas l = more_at (expr_at l.room) l.turns l.done l.terminals ≡ more_at (expr_at l.room) (length l.start) l.initial.done l.start

abbrev pub decreases-more_at-commas : goal.decreases-more_at-commas
decreases-more_at-commas l = l.turns

abbrev pub invariant-climb-links : goal.invariant-climb-links
invariant-climb-links l = loop_of (expr_at l.room) (suc l.turns) l.level l.left l.terminals ≡ loop_of (expr_at l.room) (suc (length l.start)) l.level l.initial.left l.start

abbrev pub decreases-climb-links : goal.decreases-climb-links
decreases-climb-links l = l.turns
