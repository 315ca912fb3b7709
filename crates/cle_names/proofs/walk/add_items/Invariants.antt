use Rattle.std.proofs.Common.{◌≡◌, ◌++◌, drop}
use Rattle.std.specs.List.{flat_map}
use Rattle.cl_labelling.specs.Pragmas.{item_pragmas}
use Rattle.cle_names.proofs.walk.add_items.Given as goal

abbrev pub invariant-loop-item : goal.invariant-loop-item
invariant-loop-item l = l.all.items ++ flat_map item_pragmas (drop l.item-index l.items)
    ≡ l.initial.all.items ++ flat_map item_pragmas l.items
