use Rattle.std.proofs.Common.{◌≡◌, ◌++◌, take}
use Rattle.cl_plain.specs.Wanting.{written}
use Rattle.std.specs.List.{flat_map}
use Rattle.cl_tree.specs.Items.{item_spelling}
use Rattle.cl_plain.proofs.items.write_items.Given as goal

abbrev pub invariant-loop-item : goal.invariant-loop-item
invariant-loop-item l = written l.out ≡ written l.initial.out ++ flat_map item_spelling (take l.item-index l.items)
