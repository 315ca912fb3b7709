use Rattle.std.proofs.Common.{◌<◌, length, arith, subst}
use Rattle.cl_typing.specs.Rules.{Lines}
use Rattle.cl_scope.specs.Finds.{Finds}
use Rattle.cl_scope.proofs.Searches.{begins_front}
use Rattle.cl_large.proofs.Overs.{items_here, items_next}
use Rattle.cl_large.proofs.items.count_items.Goals as goal

pub returns-in_err-count_item : goal.returns-in_err-count_item
returns-in_err-count_item c =
    let h : c.loop-item.item-index < length c.args.items.now = omega arith in
    subst (λ (ls : Lines). Finds c.from_residual.result ls) (items_here c.loop-item.sizes c.args.items.now
    c.item-item.result c.loop-item.item-index c.loop-item.totals _ h c.item-item.is c.loop-item.invariant)
    (grind (arith, begins_front))

pub loop-item-preserved : goal.loop-item-preserved
loop-item-preserved c =
    let h : c.loop-item.item-index < length c.args.items.now = omega arith in
    items_next c.loop-item.sizes c.bind_size.new.sizes c.args.items.now c.item-item.result c.loop-item.item-index
    c.loop-item.totals c.count_item.new.totals _ h c.item-item.is c.in_ok-count_item.ensures.places
    c.in_ok-count_item.ensures.totals c.in_ok-bind_size.ensures.sizes c.loop-item.invariant
