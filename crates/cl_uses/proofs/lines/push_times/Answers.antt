use Rattle.std.proofs.Common.{◌<◌, arith}
use Rattle.cl_uses.proofs.Steps.{times_step}
use Rattle.cl_uses.proofs.lines.push_times.Goals as goal

pub loop-preserved : goal.loop-preserved
loop-preserved c =
    let h : c.loop.counter < c.args.count = omega arith in
    times_step c.loop.lines.items c.push.new.self.items _ c.args.line c.args.count c.loop.counter h c.in_ok-push.ensures.items
    c.loop.invariant
