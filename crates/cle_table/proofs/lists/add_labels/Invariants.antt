use Rattle.cle_table.specs.Lists.{IsListed}
use Rattle.cle_table.proofs.lists.add_labels.Given as goal

abbrev pub invariant-loop-k : goal.invariant-loop-k
invariant-loop-k l = IsListed l.bits l.node l.k 0 l.labels.items
