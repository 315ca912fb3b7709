use Rattle.std.proofs.Common.{◌≡◌, drop}
use Rattle.cl_typing.specs.Scope.{defined_in}
use Rattle.cl_scope.proofs.items.bind_all_defined.Given as goal

abbrev pub invariant-loop-item : goal.invariant-loop-item
invariant-loop-item l = defined_in (drop l.item-index l.items) l.defined ≡ defined_in l.items l.initial.defined
