use Rattle.std.proofs.Common.{◌+◌, List, subst, sym}
use Rattle.cl_mean.specs.declared.checked.Carried.{Carried}
use Rattle.cle_ways.specs.Flow.{none_carried}
use Rattle.cle_table.specs.Lists.{IsList, AreLists}
use Rattle.cle_table.proofs.Listing.{each_pushed, length_pushed}
use Rattle.cle_table.proofs.lists.lists.Goals as goal

pub loop-node-preserved : goal.loop-node-preserved
loop-node-preserved c = subst (λ (all : List Carried). AreLists c.args.bits.now c.args.count (c.loop-node.node + 1) all) (sym c.in_ok-push.ensures.ok) (record {
  same_length = length_pushed c.loop-node.all c.in_ok-list.field-0 c.loop-node.node c.loop-node.invariant.same_length;
  each = each_pushed (λ n (x : Carried). IsList c.args.bits.now c.args.count n x.labels) c.loop-node.all c.in_ok-list.field-0 none_carried c.loop-node.node
      c.loop-node.invariant.same_length c.loop-node.invariant.each c.in_ok-list.ensures;
})
