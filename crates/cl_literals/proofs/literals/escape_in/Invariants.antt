use Rattle.std.proofs.Common.{◌≡◌, length}
use Rattle.std.specs.Prelude.{◌==◌, find}
use Rattle.cl_tree.specs.Literals.{letter_escape}
use Rattle.cl_literals.proofs.literals.escape_in.Given as goal

abbrev pub invariant-loop-table : goal.invariant-loop-table
invariant-loop-table l = letter_escape (find (λ row. row.0 == l.letter) l.table) ≡ letter_escape (find (λ row. row.0 == l.letter) l.initial.table)

abbrev pub decreases-loop-table : goal.decreases-loop-table
decreases-loop-table l = length l.table
