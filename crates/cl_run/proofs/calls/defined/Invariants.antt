use Rattle.std.proofs.Common.{◌≡◌, drop}
use Rattle.cl_run.specs.FormCalls.{defined}
use Rattle.cl_run.proofs.calls.defined.Given as goal

abbrev pub invariant-loop-item : goal.invariant-loop-item
invariant-loop-item l = defined l.name (drop l.item-index l.items) ≡ defined l.name l.items
