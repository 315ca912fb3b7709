use Rattle.std.proofs.Common.{◌<◌, map, length, arith}
use Rattle.cl_levels.specs.declared.uses.Body.{Body}
use Rattle.cl_uses.proofs.Steps.{items_step}
use Rattle.cl_uses.proofs.walk.look_items.Goals as goal

pub loop-item-preserved : goal.loop-item-preserved
loop-item-preserved c =
    let h : c.loop-item.item-index < length c.args.items.now = omega arith in
    items_step c.args.functions.now c.args.items.now c.item-item.result c.loop-item.item-index c.loop-item.spot
    c.look_item.new.spot (map (λ (b : Body). b.uses) c.loop-item.bodies.items) (map (λ (b : Body). b.uses) c.look_item.new.bodies.items)
    _ h c.item-item.is c.in_ok-look_item.ensures.uses c.in_ok-look_item.ensures.names c.loop-item.invariant
