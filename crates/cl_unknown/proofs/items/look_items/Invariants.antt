use Rattle.std.proofs.Common.{◌≡◌, drop}
use Rattle.cl_typing.specs.Unknown.{items_unknown}
use Rattle.cl_unknown.specs.Known.{known_of}
use Rattle.cl_unknown.proofs.items.look_items.Given as goal

abbrev pub invariant-loop-item : goal.invariant-loop-item
invariant-loop-item l = items_unknown (known_of l.known) l.names (drop l.item-index l.items)
    ≡ items_unknown (known_of l.initial.known) l.initial.names l.items
