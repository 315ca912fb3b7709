use Rattle.std.proofs.Common.{◌≡◌, ◌++◌, drop}
use Rattle.std.specs.List.{flat_map}
use Rattle.cl_groups.specs.Ties.{use_edges, use_seeds}
use Rattle.cl_groups.proofs.ties.Ties.add_all.Given as goal

abbrev pub invariant-loop-used : goal.invariant-loop-used
invariant-loop-used l =
    (l.self.edges.items ++ flat_map (use_edges l.own l.f) (drop l.used-index l.uses) ≡ l.initial.self.edges.items ++ flat_map (use_edges l.own l.f) l.uses)
    × (l.self.seeds.items ++ flat_map (use_seeds l.own l.f) (drop l.used-index l.uses) ≡ l.initial.self.seeds.items ++ flat_map (use_seeds l.own l.f) l.uses)
