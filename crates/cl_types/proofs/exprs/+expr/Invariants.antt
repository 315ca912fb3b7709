use Rattle.std.proofs.Common.{◌≡◌, ◌≤◌, map, drop, length}
use Rattle.cl_typing.specs.Scope.{types_of}
use Rattle.cl_typing.specs.Types.{arguments_fit, judged}
use Rattle.cl_types.proofs.exprs.+expr.Given as goal

abbrev pub invariant-arguments_fit-loop-i : goal.invariant-arguments_fit-loop-i
invariant-arguments_fit-loop-i l = record {
  rest : arguments_fit (types_of (drop l.i l.params)) (map (judged l.tags l.names) (drop l.i l.arguments))
      ≡ arguments_fit (types_of l.params) (map (judged l.tags l.names) l.arguments);
  within : l.i ≤ length l.params;
}
