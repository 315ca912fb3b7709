use Rattle.std.proofs.Common.{◌≡◌, ◌++◌, drop, filter}
use Rattle.cl_calls.specs.Calls.{crosses}
use Rattle.cl_calls.proofs.calls.crossings.Given as goal

abbrev pub invariant-loop-call : goal.invariant-loop-call
invariant-loop-call l = l.crossings.items ++ filter (crosses l.levels) (drop l.call-index l.calls) ≡ filter (crosses l.levels) l.calls
