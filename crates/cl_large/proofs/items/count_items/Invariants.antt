use Rattle.std.proofs.Common.{◌≡◌, drop}
use Rattle.cl_typing.specs.Sizes.{over, in_items}
use Rattle.cl_large.proofs.items.count_items.Given as goal

abbrev pub invariant-loop-item : goal.invariant-loop-item
invariant-loop-item l = over l.totals (in_items l.sizes (drop l.item-index l.items))
    ≡ over l.initial.totals (in_items l.initial.sizes l.items)
