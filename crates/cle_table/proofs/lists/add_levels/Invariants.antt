use Rattle.std.proofs.Common.{◌+◌, ◌/◌}
use Rattle.cle_table.specs.Lists.{IsListed}
use Rattle.cle_table.proofs.lists.add_levels.Given as goal

abbrev pub invariant-loop-k : goal.invariant-loop-k
invariant-loop-k l = IsListed l.bits l.node ((l.count + 1) / 2) l.k l.labels.items
