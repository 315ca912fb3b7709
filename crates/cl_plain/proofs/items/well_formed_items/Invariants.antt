use Rattle.std.proofs.Common.{◌≡◌, drop}
use Rattle.cl_plain.specs.Wanting.{all_well_formed}
use Rattle.cl_plain.proofs.items.well_formed_items.Given as goal

abbrev pub invariant-loop-item : goal.invariant-loop-item
invariant-loop-item l = all_well_formed (drop l.item-index l.items) ≡ all_well_formed l.items
