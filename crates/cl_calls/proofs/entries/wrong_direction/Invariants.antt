use Rattle.std.proofs.Common.{◌≡◌, drop}
use Rattle.cl_calls.specs.Calls.{wrong_direction_in}
use Rattle.cl_calls.proofs.entries.wrong_direction.Given as goal

abbrev pub invariant-loop-call : goal.invariant-loop-call
invariant-loop-call l = wrong_direction_in l.labels l.levels (drop l.call-index l.crossings) ≡ wrong_direction_in l.labels l.levels l.crossings
