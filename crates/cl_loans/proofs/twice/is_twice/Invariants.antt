use Rattle.std.proofs.Common.{drop}
use Rattle.cl_levels.specs.Crossings.{LentTwice}
use Rattle.cl_loans.proofs.twice.is_twice.Given as goal

abbrev pub invariant-loop-i : goal.invariant-loop-i
invariant-loop-i l = LentTwice l.variables → LentTwice (drop l.i l.variables)
