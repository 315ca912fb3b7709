use Rattle.std.proofs.Common.{◌≡◌, ◌++◌, drop}
use Rattle.std.specs.List.{flat_map}
use Rattle.cl_loans.specs.Naming.{back, laid}
use Rattle.cl_loans.proofs.naming.Naming.add_all.Given as goal

abbrev pub invariant-loop-used : goal.invariant-loop-used
invariant-loop-used l =
    (l.self.edges.items ++ flat_map (back l.f) (drop l.used-index l.uses) ≡ l.initial.self.edges.items ++ flat_map (back l.f) l.uses)
    × (l.self.seeds.items ++ flat_map (laid l.f) (drop l.used-index l.uses) ≡ l.initial.self.seeds.items ++ flat_map (laid l.f) l.uses)
