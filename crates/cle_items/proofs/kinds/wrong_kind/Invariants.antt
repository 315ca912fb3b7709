use Rattle.std.proofs.Common.{◌≡◌, drop}
use Rattle.cle_items.specs.Numbered.{numbered, wrong_kinds}
use Rattle.cle_items.proofs.kinds.wrong_kind.Given as goal

abbrev pub invariant-loop-item : goal.invariant-loop-item
invariant-loop-item l = wrong_kinds l.labels (numbered (drop l.item-index l.all)) ≡ wrong_kinds l.labels (numbered l.all)
