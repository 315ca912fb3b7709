use Rattle.std.proofs.Common.{◌≡◌, ℕ, length}
use Rattle.cl_parse_expr.specs.Types.{pointers_at}
use Rattle.cl_parse_expr.proofs.types.pointers_at.Given as goal

abbrev pub invariant-stars : goal.invariant-stars
invariant-stars l = pointers_at l.turns l.ctype l.terminals ≡ pointers_at (length l.start) l.initial.ctype l.start

abbrev pub decreases-stars : goal.decreases-stars
decreases-stars l = l.turns
