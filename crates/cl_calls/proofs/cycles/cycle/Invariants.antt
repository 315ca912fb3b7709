use Rattle.cl_calls.proofs.Circles.{SoFar}
use Rattle.cl_calls.proofs.cycles.cycle.Given as goal

abbrev pub invariant-loop-call : goal.invariant-loop-call
invariant-loop-call l = SoFar l.levels l.crossings l.call-index l.pairs.edges.items l.pairs.seen.items
