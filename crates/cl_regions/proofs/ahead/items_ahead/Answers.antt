use Rattle.std.proofs.Common.{◌≡◌, ◌<◌, ◌-◌, List, map, drop, length, reverse, sym, ap, ◌∙◌, subst, arith}
use Rattle.cl_tree.specs.declared.tree.Item.{Item}
use Rattle.cl_labelling.specs.Regions.{item_part}
use Rattle.cl_regions.specs.Ahead.{all_ahead}
use Rattle.cl_regions.specs.Walks.{IsAhead}
use Rattle.cl_regions.proofs.Aheads.{back_step, back_length, drop_start, drop_end}
use Rattle.cl_regions.proofs.ahead.items_ahead.Goals as goal

pub loop-i-init : goal.loop-i-init
loop-i-init c = subst (λ (xs : List Item). IsAhead c.new-ahead.result (map item_part xs)) (sym (drop_start c.args.items.now))
    c.new-ahead.ensures

pub loop-i-preserved : goal.loop-i-preserved
loop-i-preserved c =
    let h : c.loop-i.i < length c.args.items.now = omega arith in
    let n : length (map item_part (drop (length c.args.items.now - c.loop-i.i) c.args.items.now)) ≡ c.loop-i.i =
    back_length item_part c.args.items.now c.loop-i.i (omega arith) in
    subst (λ (xs : List Item). IsAhead c.note.new.self (map item_part xs))
    (sym (back_step c.args.items.now c.index-items-items.result c.loop-i.i h c.index-items-items.is))
    (c.in_ok-note.ensures (item_part c.index-items-items.result)
    (map item_part (drop (length c.args.items.now - c.loop-i.i) c.args.items.now)) c.loop-i.invariant
    (sym c.item_role.ensures) (omega arith))

pub returns : goal.returns
returns c = c.loop-i.invariant.regular
    ∙ ap (λ (xs : List Item). reverse (all_ahead (map item_part xs))) (drop_end c.args.items.now c.loop-i.i (omega arith))
