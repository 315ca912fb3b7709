use Rattle.std.proofs.Common.{◌<◌, ◌∙◌, length, arith}
use Rattle.code_tables.proofs.Kept.{less}
use Rattle.code_tables.proofs.names.Names.leave.Goals as goal

pub loop-self-preserved : goal.loop-self-preserved
loop-self-preserved c =
    let h : c.args.start < length c.loop-self.self = omega arith in
    less c.loop-self.self c.unbind.new.self c.args.start h c.unbind.ensures ∙ c.loop-self.invariant
