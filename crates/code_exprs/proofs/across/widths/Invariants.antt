use Rattle.std.proofs.Common.{◌≡◌, ◌+◌, map, drop}
use Rattle.code_forms.specs.Layout.{widths}
use Rattle.code_tables.specs.Types.{shape_in}
use Rattle.code_exprs.proofs.across.widths.Given as goal

abbrev pub invariant-loop-param : goal.invariant-loop-param
invariant-loop-param l = l.cells + widths (map shape_in (drop l.param-index l.params)) ≡ widths (map shape_in l.params)
