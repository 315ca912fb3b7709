use Rattle.std.proofs.Common.{◌≡◌, map, drop}
use Rattle.cl_tree.specs.Statements.{stmt_shape, all_stmts}
use Rattle.cl_plain.proofs.statements.+proper.Given as goal

abbrev pub invariant-all_stmts-loop-s : goal.invariant-all_stmts-loop-s
invariant-all_stmts-loop-s l = all_stmts (map stmt_shape (drop l.s-index l.all)) ≡ all_stmts (map stmt_shape l.all)
