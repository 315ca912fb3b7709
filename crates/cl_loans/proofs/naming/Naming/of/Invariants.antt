use Rattle.std.proofs.Common.{◌≡◌, ◌++◌, map, drop}
use Rattle.cl_levels.specs.Uses.{each_from}
use Rattle.cl_loans.specs.Naming.{back, laid, backs, names}
use Rattle.cl_loans.proofs.naming.Naming.of.Given as goal

abbrev pub invariant-loop-f : goal.invariant-loop-f
invariant-loop-f l =
    (l.naming.edges.items ++ each_from back l.f (map (λ b. b.uses) (drop l.f l.bodies)) ≡ backs (map (λ b. b.uses) l.bodies))
    × (l.naming.seeds.items ++ each_from laid l.f (map (λ b. b.uses) (drop l.f l.bodies)) ≡ names (map (λ b. b.uses) l.bodies))
