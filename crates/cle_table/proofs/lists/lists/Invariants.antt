use Rattle.cle_table.specs.Lists.{AreLists}
use Rattle.cle_table.proofs.lists.lists.Given as goal

abbrev pub invariant-loop-node : goal.invariant-loop-node
invariant-loop-node l = AreLists l.bits l.count l.node l.all
