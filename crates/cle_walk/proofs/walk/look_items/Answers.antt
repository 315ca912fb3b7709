use Rattle.std.proofs.Common.{◌<◌, length, arith}
use Rattle.cle_walk.proofs.Steps.{items_step}
use Rattle.cle_walk.proofs.walk.look_items.Goals as goal

pub loop-item-preserved : goal.loop-item-preserved
loop-item-preserved c =
    let h : c.loop-item.item-index < length c.args.items.now = omega arith in
    items_step c.args.program.now c.args.items.now c.item-item.result c.loop-item.item-index c.loop-item.spot
    c.look_item.new.spot c.loop-item.bodies.items c.look_item.new.bodies.items
    _ h c.item-item.is c.in_ok-look_item.ensures.bodies c.in_ok-look_item.ensures.names c.loop-item.invariant
