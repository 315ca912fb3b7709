use Rattle.std.proofs.Common.{◌≡◌, ◌≤◌, drop, length}
use Rattle.cl_typing.specs.Scope.{types_of}
use Rattle.cl_typing.specs.Wrong.{same_types}
use Rattle.cl_wrong.proofs.items.same_types.Given as goal

abbrev pub invariant-loop-i : goal.invariant-loop-i
invariant-loop-i l = record {
  rest : same_types (types_of (drop l.i l.ds)) (types_of (drop l.i l.es)) ≡ same_types (types_of l.ds) (types_of l.es);
  within : l.i ≤ length l.es;
}
