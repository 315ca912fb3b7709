use Rattle.std.proofs.Common.{◌≡◌, map, drop}
use Rattle.cl_typing.specs.Scope.{in_order}
use Rattle.cl_typing.specs.Twice.{stmt_twice}
use Rattle.cl_scope.specs.Table.{since}
use Rattle.cl_scope.specs.Behind.{Extends}
use Rattle.cl_twice.proofs.stmts.+stmt.Given as goal

abbrev pub invariant-look_all-loop-s : goal.invariant-look_all-loop-s
invariant-look_all-loop-s l = record {
  rest : in_order (map stmt_twice (drop l.s-index l.all)) (since l.start l.names)
      ≡ in_order (map stmt_twice l.all) (since l.start l.initial.names);
  base : Extends l.initial.names l.names;
}
