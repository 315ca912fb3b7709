use Rattle.std.proofs.Common.{◌≡◌, ◌+◌, map, drop}
use Rattle.code_forms.specs.Layout.{counts}
use Rattle.code_tables.specs.Types.{shape_in}
use Rattle.code_exprs.proofs.across.counts.Given as goal

abbrev pub invariant-loop-param : goal.invariant-loop-param
invariant-loop-param l = l.cells + counts (map shape_in (drop l.param-index l.params)) ≡ counts (map shape_in l.params)
