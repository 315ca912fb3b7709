use Rattle.std.proofs.Common.{◌<◌, length, arith}
use Rattle.cl_labelling.specs.Pragmas.{item_pragmas}
use Rattle.cle_names.proofs.Lists.{join_step}
use Rattle.cle_names.proofs.walk.add_items.Goals as goal

pub loop-item-preserved : goal.loop-item-preserved
loop-item-preserved c =
    let h : c.loop-item.item-index < length c.args.items.now = omega arith in
    join_step item_pragmas c.args.items.now c.item-item.result c.loop-item.item-index c.loop-item.all.items
    c.add_item.new.all.items _ h c.item-item.is c.in_ok-add_item.ensures c.loop-item.invariant
