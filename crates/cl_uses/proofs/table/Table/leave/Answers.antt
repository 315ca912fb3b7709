use Rattle.std.proofs.Common.{◌<◌, ◌∙◌, length, arith}
use Rattle.cl_uses.proofs.Kept.{less}
use Rattle.cl_uses.proofs.table.Table.leave.Goals as goal

pub loop-self-preserved : goal.loop-self-preserved
loop-self-preserved c =
    let h : c.args.start < length c.loop-self.self = omega arith in
    less c.loop-self.self c.unbind.new.self c.args.start h c.unbind.ensures ∙ c.loop-self.invariant
