use Rattle.cl_calls.proofs.Circles.{one_seed, as_seed}
use Rattle.cl_calls.proofs.cycles.closes.Goals as goal

pub returns : goal.returns
returns c = (
  λ t. one_seed c.args.edges.now c.args.pair.from c.args.pair.to (c.in_ok-carried.ensures.sound 0 c.args.pair.from (c.has.ensures.0 t)),
  λ r. c.has.ensures.1 (c.in_ok-carried.ensures.complete 0 c.args.pair.from (as_seed c.args.edges.now c.args.pair.from c.args.pair.to r)),
)
