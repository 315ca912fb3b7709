use Rattle.cl_groups.specs.Marks.{Conflict, IsLeast}
use Rattle.cl_groups.proofs.conflicts.first_conflict.Given as goal

abbrev pub invariant-loop-k : goal.invariant-loop-k
invariant-loop-k l = IsLeast (Conflict l.carried l.own l.lines l.odd l.k) l.first
