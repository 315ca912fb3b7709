use Rattle.std.proofs.Common.{◌≡◌, map, drop}
use Rattle.cl_typing.specs.Wrong.{stmt_wrong, in_order}
use Rattle.cl_scope.specs.Behind.{Extends}
use Rattle.cl_wrong.specs.Inside.{inside_of}
use Rattle.cl_wrong.proofs.stmts.+stmt.Given as goal

abbrev pub invariant-look_block-loop-s : goal.invariant-look_block-loop-s
invariant-look_block-loop-s l = record {
  rest : in_order (map (stmt_wrong (inside_of l.inside)) (drop l.s-index l.all)) l.names l.loops
      ≡ in_order (map (stmt_wrong (inside_of l.inside)) l.all) l.initial.names l.loops;
  base : Extends l.initial.names l.names;
}
