use Rattle.std.proofs.Common.{◌≤◌}
use Rattle.cl_groups.specs.Marks.{NoneBetween}
use Rattle.cl_groups.proofs.marks.next_level.Given as goal

abbrev pub invariant-loop-level : goal.invariant-loop-level
invariant-loop-level l = (l.from ≤ l.level) × NoneBetween l.carried l.node l.from l.level
