use Rattle.std.proofs.Common.{◌≡◌, ◌++◌, drop}
use Rattle.cl_levels.specs.Crossings.{args_of}
use Rattle.cl_rows.proofs.fill.args_of.Given as goal

abbrev pub invariant-loop-param : goal.invariant-loop-param
invariant-loop-param l = l.args ++ args_of (drop l.param-index l.params) ≡ args_of l.params
