use Rattle.std.proofs.Common.{◌≡◌, length}
use Rattle.cl_groups.specs.Marks.{AllStand}
use Rattle.cl_groups.proofs.marks.levels_of.Given as goal

abbrev pub invariant-loop-k : goal.invariant-loop-k
invariant-loop-k l = (length l.levels ≡ l.k) × AllStand l.carried l.own l.odd l.otherwise l.levels
