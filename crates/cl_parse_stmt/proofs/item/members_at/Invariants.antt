use Rattle.std.proofs.Common.{◌≡◌, suc, length}
use Rattle.cl_parse_expr.specs.Reading.{expr_at}
use Rattle.cl_parse_stmt.specs.Declaring.{init_at}
use Rattle.cl_parse_stmt.specs.Itemising.{members_at}
use Rattle.cl_parse_stmt.proofs.item.members_at.Given as goal

abbrev pub invariant-members : goal.invariant-members
invariant-members l = members_at (init_at l.room (expr_at l.room)) l.first (suc l.turns) l.done l.terminals ≡ members_at (init_at l.room (expr_at l.room)) l.first (suc (length l.start)) l.initial.done l.start

abbrev pub decreases-members : goal.decreases-members
decreases-members l = l.turns
