use Rattle.std.proofs.Common.{◌≡◌, ◌++◌, drop}
use Rattle.cle_share.specs.Bearings.{bearings}
use Rattle.cle_items.specs.Numbered.{bearers, numbered}
use Rattle.cle_items.proofs.bearers.bearers.Given as goal

abbrev pub invariant-loop-item : goal.invariant-loop-item
invariant-loop-item l = bearings l.found.items ++ bearers (numbered (drop l.item-index l.all)) ≡ bearers (numbered l.all)
