use Rattle.std.proofs.Common.{arith}
use Rattle.std.proofs.lemmas.Grind.{common_steps}
use Rattle.cl_base.proofs.Known.{appends_rest}
use Rattle.cl_base.proofs.host.write_whole.Goals as goal

pub loop-done-preserved : goal.loop-done-preserved
loop-done-preserved g c = (
  grind (arith, common_steps),
  appends_rest _ _ _ c.loop-done.done c.in-Ok.taken c.args.piece.now c.loop-done.invariant.1 c.in-Ok.ensures.bytes,
)
