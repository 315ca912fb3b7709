use Rattle.std.proofs.Common.{◌+◌, ◌/◌}
use Rattle.cle_table.proofs.Listing.{level_next}
use Rattle.cle_table.proofs.lists.add_levels.Goals as goal

pub loop-k-preserved : goal.loop-k-preserved
loop-k-preserved c = level_next c.args.bits.now c.args.node ((c.args.count + 1) / 2) c.loop-k.k c.loop-k.labels.items c.add_if.new.labels.items c.has.result
    c.loop-k.invariant c.has.ensures c.in_ok-add_if.ensures.there c.in_ok-add_if.ensures.none
