use Rattle.std.proofs.Common.{◌≡◌, ◌++◌, map, drop}
use Rattle.std.specs.List.{flat_map}
use Rattle.cl_levels.specs.Uses.{read}
use Rattle.cl_uses.proofs.exprs.+expr.Given as goal

abbrev pub invariant-look_exprs-loop-e : goal.invariant-look_exprs-loop-e
invariant-look_exprs-loop-e l =
    l.uses.items ++ flat_map (λ a. a.uses) (map (read l.functions l.spot.known) (drop l.e-index l.all))
    ≡ l.initial.uses.items ++ flat_map (λ a. a.uses) (map (read l.functions l.spot.known) l.all)
