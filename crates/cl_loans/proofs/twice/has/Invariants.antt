use Rattle.std.proofs.Common.{drop}
use Rattle.std.specs.List.{Contains}
use Rattle.cl_loans.proofs.twice.has.Given as goal

abbrev pub invariant-loop-other : goal.invariant-loop-other
invariant-loop-other l = Contains l.variables l.variable → Contains (drop l.other-index l.variables) l.variable
