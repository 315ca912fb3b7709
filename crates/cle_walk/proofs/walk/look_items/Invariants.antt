use Rattle.std.proofs.Common.{◌≡◌, ◌++◌, length, drop}
use Rattle.cle_ways.specs.Ways.{bodies_from}
use Rattle.cle_walk.proofs.walk.look_items.Given as goal

abbrev pub invariant-loop-item : goal.invariant-loop-item
invariant-loop-item l =
    l.bodies.items ++ bodies_from l.program (length l.bodies.items) l.spot (drop l.item-index l.items)
    ≡ l.initial.bodies.items ++ bodies_from l.program (length l.initial.bodies.items) l.initial.spot l.items
