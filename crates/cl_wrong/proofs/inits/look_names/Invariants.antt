use Rattle.std.proofs.Common.{◌≡◌, drop}
use Rattle.cl_typing.specs.Scope.{with_names}
use Rattle.cl_typing.specs.Wrong.{names_wrong}
use Rattle.cl_wrong.proofs.inits.look_names.Given as goal

abbrev pub invariant-loop-d : goal.invariant-loop-d
invariant-loop-d l = record {
  rest : names_wrong l.tags l.names l.is_static (drop l.d-index l.ds)
      ≡ names_wrong l.tags l.initial.names l.is_static l.ds;
  names : with_names (drop l.d-index l.ds) l.names ≡ with_names l.ds l.initial.names;
}
