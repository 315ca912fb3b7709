use Rattle.std.proofs.Common.{[], map}
use Rattle.cl_labelling.specs.Regions.{item_part, bad_regions}
use Rattle.cl_regions.specs.Walks.{IsSoFar}
use Rattle.cl_regions.proofs.places.look_items.Given as goal

abbrev pub invariant-loop-item : goal.invariant-loop-item
invariant-loop-item l = IsSoFar l.walk (map item_part l.items) l.item-index (bad_regions [] (map item_part l.items))
