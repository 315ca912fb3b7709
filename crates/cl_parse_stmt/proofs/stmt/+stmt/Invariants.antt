use Rattle.std.proofs.Common.{◌≡◌, suc, ◌+◌, ◌*◌, length, []}
use Rattle.cl_parse_expr.specs.Reading.{expr_at}
use Rattle.cl_parse_stmt.specs.Declaring.{init_at}
use Rattle.cl_parse_stmt.specs.Stating.{block_at, listed_of, stmt_at}
use Rattle.cl_parse_stmt.proofs.stmt.+stmt.Given as goal

abbrev pub decreases-stmt_at : goal.decreases-stmt_at
decreases-stmt_at l = 6 * l.deep

abbrev pub decreases-headed : goal.decreases-headed
decreases-headed l = 6 * l.deep + 5

abbrev pub decreases-block_at : goal.decreases-block_at
decreases-block_at l = 6 * l.deep + 3

abbrev pub decreases-listed_at : goal.decreases-listed_at
decreases-listed_at l = 6 * l.deep + 1

abbrev pub decreases-if_at : goal.decreases-if_at
decreases-if_at l = 6 * l.deep + 1

abbrev pub decreases-while_at : goal.decreases-while_at
decreases-while_at l = 6 * l.deep + 1

abbrev pub decreases-do_at : goal.decreases-do_at
decreases-do_at l = 6 * l.deep + 1

abbrev pub decreases-for_at : goal.decreases-for_at
decreases-for_at l = 6 * l.deep + 1

abbrev pub invariant-block_at-statements : goal.invariant-block_at-statements
invariant-block_at-statements l =
    block_at (listed_of (stmt_at l.deep (expr_at l.room) (init_at l.room (expr_at l.room))) (init_at l.room (expr_at l.room))) (suc l.turns) l.done l.terminals
    ≡ block_at (listed_of (stmt_at l.deep (expr_at l.room) (init_at l.room (expr_at l.room))) (init_at l.room (expr_at l.room))) (suc (length l.start)) [] l.start

abbrev pub decreases-block_at-statements : goal.decreases-block_at-statements
decreases-block_at-statements l = l.turns
