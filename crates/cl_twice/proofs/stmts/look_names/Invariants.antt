use Rattle.std.proofs.Common.{◌≡◌, ◌≤◌, drop, length}
use Rattle.cl_typing.specs.Scope.{with_names}
use Rattle.cl_typing.specs.Twice.{names_twice}
use Rattle.cl_scope.specs.Table.{since}
use Rattle.cl_twice.proofs.stmts.look_names.Given as goal

abbrev pub invariant-loop-d : goal.invariant-loop-d
invariant-loop-d l = record {
  rest : names_twice (since l.start l.names) (drop l.d-index l.ds) ≡ names_twice (since l.start l.initial.names) l.ds;
  names : with_names (drop l.d-index l.ds) l.names ≡ with_names l.ds l.initial.names;
  entered : l.start ≤ length l.names;
}
