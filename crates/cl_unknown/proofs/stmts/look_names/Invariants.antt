use Rattle.std.proofs.Common.{◌≡◌, drop}
use Rattle.cl_typing.specs.Scope.{with_names}
use Rattle.cl_typing.specs.Unknown.{names_unknown}
use Rattle.cl_unknown.specs.Known.{known_of}
use Rattle.cl_unknown.proofs.stmts.look_names.Given as goal

abbrev pub invariant-loop-d : goal.invariant-loop-d
invariant-loop-d l = record {
  rest : names_unknown (known_of l.known) l.names (drop l.d-index l.ds)
      ≡ names_unknown (known_of l.known) l.initial.names l.ds;
  names : with_names (drop l.d-index l.ds) l.names ≡ with_names l.ds l.initial.names;
}
