use Rattle.std.proofs.Common.{◌≡◌, ◌++◌, map, drop}
use Rattle.cl_groups.specs.Ties.{edges_of, seeds_of}
use Rattle.cl_groups.proofs.ties.Ties.of.Given as goal

abbrev pub invariant-loop-f : goal.invariant-loop-f
invariant-loop-f l =
    (l.ties.edges.items ++ edges_of l.own l.f (map (λ b. b.uses) (drop l.f l.bodies)) ≡ edges_of l.own 0 (map (λ b. b.uses) l.bodies))
    × (l.ties.seeds.items ++ seeds_of l.own l.f (map (λ b. b.uses) (drop l.f l.bodies)) ≡ seeds_of l.own 0 (map (λ b. b.uses) l.bodies))
