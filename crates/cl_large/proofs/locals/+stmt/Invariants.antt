use Rattle.std.proofs.Common.{◌≡◌, ◌≤◌, ◌+◌, drop, map, sum}
use Rattle.cl_typing.specs.Sizes.{stmt_locals}
use Rattle.cl_large.specs.Capped.{most, capped}
use Rattle.cl_large.proofs.locals.+stmt.Given as goal

abbrev pub invariant-locals_of-loop-s : goal.invariant-locals_of-loop-s
invariant-locals_of-loop-s l = record {
  rest : capped (l.total + sum (map (stmt_locals l.sizes) (drop l.s-index l.all)))
      ≡ capped (sum (map (stmt_locals l.sizes) l.all));
  small : l.total ≤ most;
}
