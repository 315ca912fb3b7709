use Rattle.std.proofs.Common.{◌≡◌, drop}
use Rattle.std.specs.List.{list_any}
use Rattle.cl_typing.specs.Facts.{item_defines}
use Rattle.cl_sema.proofs.ends.has_definition.Given as goal

abbrev pub invariant-loop-item : goal.invariant-loop-item
invariant-loop-item l = list_any item_defines (drop l.item-index l.items) ≡ list_any item_defines l.items
