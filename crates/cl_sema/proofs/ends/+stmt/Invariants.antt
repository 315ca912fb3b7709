use Rattle.std.proofs.Common.{◌≡◌, map, drop}
use Rattle.cl_typing.specs.Facts.{any, stmt_defines}
use Rattle.cl_sema.proofs.ends.+stmt.Given as goal

abbrev pub invariant-any_defines-loop-s : goal.invariant-any_defines-loop-s
invariant-any_defines-loop-s l = any (map stmt_defines (drop l.s-index l.all)) ≡ any (map stmt_defines l.all)
