use Rattle.std.proofs.Common.{◌≡◌, drop}
use Rattle.cl_typing.specs.Twice.{items_twice}
use Rattle.cl_twice.specs.SoFar.{declared_of}
use Rattle.cl_twice.proofs.items.look_items.Given as goal

abbrev pub invariant-loop-item : goal.invariant-loop-item
invariant-loop-item l =
    items_twice (declared_of l.so) (drop l.item-index l.items) ≡ items_twice (declared_of l.initial.so) l.items
