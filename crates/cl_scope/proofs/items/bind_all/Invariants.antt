use Rattle.std.proofs.Common.{◌≡◌, drop}
use Rattle.cl_typing.specs.Scope.{with_names}
use Rattle.cl_scope.proofs.items.bind_all.Given as goal

abbrev pub invariant-loop-d : goal.invariant-loop-d
invariant-loop-d l = with_names (drop l.d-index l.ds) l.names ≡ with_names l.ds l.initial.names
