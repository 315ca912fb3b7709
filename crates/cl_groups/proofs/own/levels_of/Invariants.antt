use Rattle.std.proofs.Common.{◌≡◌, ◌++◌, map, drop}
use Rattle.cl_groups.specs.Own.{own_of}
use Rattle.cl_groups.proofs.own.levels_of.Given as goal

abbrev pub invariant-loop-label : goal.invariant-loop-label
invariant-loop-label l = l.own ++ map (own_of l.labels) (drop l.label-index l.on) ≡ map (own_of l.labels) l.on
