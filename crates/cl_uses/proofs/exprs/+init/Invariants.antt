use Rattle.std.proofs.Common.{◌≡◌, ◌++◌, map, drop}
use Rattle.std.specs.List.{flat_map}
use Rattle.cl_levels.specs.Uses.{init_uses}
use Rattle.cl_uses.proofs.exprs.+init.Given as goal

abbrev pub invariant-look_inits-loop-i : goal.invariant-look_inits-loop-i
invariant-look_inits-loop-i l =
    l.uses.items ++ flat_map (λ us. us) (map (init_uses l.functions l.spot.known) (drop l.i-index l.all))
    ≡ l.initial.uses.items ++ flat_map (λ us. us) (map (init_uses l.functions l.spot.known) l.all)
