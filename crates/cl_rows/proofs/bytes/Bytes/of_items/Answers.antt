use Rattle.std.proofs.Common.{arith}
use Rattle.cl_rows.proofs.Sums.{next_item}
use Rattle.cl_rows.proofs.bytes.Bytes.of_items.Goals as goal

pub loop-i-init : goal.loop-i-init
loop-i-init c = (c.none-all.ensures.items, c.none-all.ensures.known)

pub loop-i-preserved : goal.loop-i-preserved
loop-i-preserved c =
    (c.front-all.ensures, next_item c.args.items.now c.loop-i.i c.index-items-i.result c.loop-i.all.items.now c.add.new.self.known (omega arith) c.index-items-i.is c.loop-i.invariant.0 c.in_ok-add.ensures.known)
