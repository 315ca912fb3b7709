use Rattle.std.proofs.Common.{subst, sym}
use Rattle.cle_table.specs.Lists.{IsListed}
use Rattle.cle_table.proofs.Listing.{listed_none, label_next}
use Rattle.cle_table.proofs.lists.add_labels.Goals as goal

pub loop-k-init : goal.loop-k-init
loop-k-init c = subst (λ xs. IsListed c.args.bits.now c.args.node 0 0 xs) (sym c.requires.empty) (listed_none c.args.bits.now c.args.node)

pub loop-k-preserved : goal.loop-k-preserved
loop-k-preserved c = label_next c.args.bits.now c.args.node c.loop-k.k c.loop-k.labels.items c.add_if.new.labels.items c.has.result
    c.loop-k.invariant c.has.ensures c.in_ok-add_if.ensures.there c.in_ok-add_if.ensures.none
