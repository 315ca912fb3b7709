use Rattle.std.proofs.Common.{◌≡◌, map, drop}
use Rattle.cl_typing.specs.Scope.{in_order}
use Rattle.cl_typing.specs.Unknown.{stmt_unknown}
use Rattle.cl_unknown.specs.Known.{known_of}
use Rattle.cl_scope.specs.Behind.{Extends}
use Rattle.cl_unknown.proofs.stmts.+stmt.Given as goal

abbrev pub invariant-look_block-loop-s : goal.invariant-look_block-loop-s
invariant-look_block-loop-s l = record {
  rest : in_order (map (stmt_unknown (known_of l.known)) (drop l.s-index l.all)) l.names
      ≡ in_order (map (stmt_unknown (known_of l.known)) l.all) l.initial.names;
  base : Extends l.initial.names l.names;
}
