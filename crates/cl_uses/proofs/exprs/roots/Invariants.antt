use Rattle.std.proofs.Common.{◌≡◌, ◌++◌, map, drop}
use Rattle.cl_levels.specs.Uses.{read}
use Rattle.cl_uses.proofs.exprs.roots.Given as goal

abbrev pub invariant-loop-e : goal.invariant-loop-e
invariant-loop-e l = l.found ++ map (λ a. a.root) (map (read l.functions l.spot.known) (drop l.e-index l.all))
    ≡ map (λ a. a.root) (map (read l.functions l.spot.known) l.all)
