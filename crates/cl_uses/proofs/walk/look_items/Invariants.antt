use Rattle.std.proofs.Common.{◌≡◌, ◌++◌, map, drop}
use Rattle.cl_levels.specs.Uses.{bodies_from}
use Rattle.cl_levels.specs.declared.uses.Body.{Body}
use Rattle.cl_uses.proofs.walk.look_items.Given as goal

abbrev pub invariant-loop-item : goal.invariant-loop-item
invariant-loop-item l =
    map (λ (b : Body). b.uses) l.bodies.items ++ bodies_from l.functions l.spot (drop l.item-index l.items)
    ≡ map (λ (b : Body). b.uses) l.initial.bodies.items ++ bodies_from l.functions l.initial.spot l.items
