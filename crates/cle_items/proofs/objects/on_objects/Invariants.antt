use Rattle.std.proofs.Common.{◌≡◌, ◌++◌, drop}
use Rattle.cle_items.specs.Numbered.{numbered, object_labels}
use Rattle.cle_items.proofs.objects.on_objects.Given as goal

abbrev pub invariant-loop-item : goal.invariant-loop-item
invariant-loop-item l = l.found ++ object_labels (numbered (drop l.item-index l.all)) ≡ object_labels (numbered l.all)
