use Rattle.std.proofs.Common.{◌<◌, length, arith}
use Rattle.cl_labelling.specs.Pragmas.{stmt_pragmas}
use Rattle.cle_names.proofs.Lists.{join_step_made}
use Rattle.cle_names.proofs.walk.+stmt.Goals as goal

pub add_all-loop-s-preserved : goal.add_all-loop-s-preserved
add_all-loop-s-preserved t c =
    let h : c.loop-s.s-index < length c.args.ss.now = omega arith in
    join_step_made stmt_pragmas c.args.ss.now c.s-item.result c.loop-s.s-index c.loop-s.all.items c.add_stmt.new.all.items
    _ h c.s-item.is c.in_ok-add_stmt.ensures c.loop-s.invariant
