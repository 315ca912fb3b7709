use Rattle.std.proofs.Common.{◌≡◌, drop, map}
use Rattle.std.specs.List.{flat_map}
use Rattle.cl_typing.specs.Sizes.{over, stmt_counted}
use Rattle.cl_large.specs.Counts.{after_all}
use Rattle.cl_large.proofs.counts.+stmt.Given as goal

abbrev pub invariant-count_all-loop-s : goal.invariant-count_all-loop-s
invariant-count_all-loop-s l = record {
  rest : over l.totals (flat_map (λ cs. cs) (map (stmt_counted l.sizes) (drop l.s-index l.all)))
      ≡ over l.initial.totals (flat_map (λ cs. cs) (map (stmt_counted l.sizes) l.all));
  totals : after_all l.totals (flat_map (λ cs. cs) (map (stmt_counted l.sizes) (drop l.s-index l.all)))
      ≡ after_all l.initial.totals (flat_map (λ cs. cs) (map (stmt_counted l.sizes) l.all));
}
