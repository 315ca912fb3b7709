use Rattle.std.proofs.Common.{arith}
use Rattle.cl_reach.proofs.Steps.{passed_more}
use Rattle.cl_reach.proofs.spread.pass_on.Goals as goal

pub loop-target-preserved : goal.loop-target-preserved
loop-target-preserved c = passed_more c.args.targets.now c.loop-target.target-index c.args.word c.args.words.now c.loop-target.words c.give.new.words c.args.queue.now c.loop-target.queue c.give.new.queue (omega arith) c.loop-target.invariant c.in_ok-give.ensures
