use Rattle.std.proofs.Common.{◌≡◌, drop}
use Rattle.cl_typing.specs.Wrong.{items_wrong}
use Rattle.cl_wrong.proofs.items.look_items.Given as goal

abbrev pub invariant-loop-item : goal.invariant-loop-item
invariant-loop-item l =
    items_wrong l.tags l.names (drop l.item-index l.items) ≡ items_wrong l.initial.tags l.initial.names l.items
