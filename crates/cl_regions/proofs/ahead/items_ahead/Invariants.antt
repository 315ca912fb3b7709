use Rattle.std.proofs.Common.{◌-◌, map, drop, length}
use Rattle.cl_labelling.specs.Regions.{item_part}
use Rattle.cl_regions.specs.Walks.{IsAhead}
use Rattle.cl_regions.proofs.ahead.items_ahead.Given as goal

abbrev pub invariant-loop-i : goal.invariant-loop-i
invariant-loop-i l = IsAhead l.ahead (map item_part (drop (length l.items - l.i) l.items))
