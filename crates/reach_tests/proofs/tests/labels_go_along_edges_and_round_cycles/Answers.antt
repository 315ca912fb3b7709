use Rattle.std.proofs.Common.{refl, List, ◌∷◌, []}
use Rattle.cl_reach.specs.declared.graph.Edge.{Edge}
use Rattle.cl_reach.specs.declared.propagate.Seed.{Seed}
use Rattle.reach_tests.proofs.Small.{all_below}
use Rattle.reach_tests.proofs.tests.labels_go_along_edges_and_round_cycles.Goals as goal

pub propagate-requires-clause-seeds : goal.propagate-requires-clause-seeds
propagate-requires-clause-seeds g c = all_below (λ (s : Seed). s.node) 5 (c.seed.result ∷ c.seed-2.result ∷ []) (rw (c.seed.ensures, c.seed-2.ensures) refl)

pub propagate-requires-clause-labels : goal.propagate-requires-clause-labels
propagate-requires-clause-labels g c = all_below (λ (s : Seed). s.label) 71 (c.seed.result ∷ c.seed-2.result ∷ []) (rw (c.seed.ensures, c.seed-2.ensures) refl)

pub propagate-requires-clause-sources : goal.propagate-requires-clause-sources
propagate-requires-clause-sources g c = all_below (λ (e : Edge). e.from) 5 (c.edge.result ∷ c.edge-2.result ∷ c.edge-3.result ∷ c.edge-4.result ∷ c.edge-5.result ∷ []) (rw (c.edge.ensures, c.edge-2.ensures, c.edge-3.ensures, c.edge-4.ensures, c.edge-5.ensures) refl)

pub propagate-requires-clause-targets : goal.propagate-requires-clause-targets
propagate-requires-clause-targets g c = all_below (λ (e : Edge). e.to) 5 (c.edge.result ∷ c.edge-2.result ∷ c.edge-3.result ∷ c.edge-4.result ∷ c.edge-5.result ∷ []) (rw (c.edge.ensures, c.edge-2.ensures, c.edge-3.ensures, c.edge-4.ensures, c.edge-5.ensures) refl)
