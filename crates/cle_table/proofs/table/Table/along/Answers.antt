use Rattle.std.proofs.Common.{◌≡◌, ◌<◌, ℕ, List, length, All, subst, sym, ap, ◌∙◌}
use Rattle.cl_reach.specs.declared.graph.Edge.{Edge}
use Rattle.cl_reach.specs.declared.propagate.Seed.{Seed}
use Rattle.cl_reach.specs.Reach as graph
use Rattle.cl_reach.specs.Reach.{Bears}
use Rattle.cle_ways.specs.declared.ways.Way.{Way}
use Rattle.cle_table.specs.declared.table.Table.{Table}
use Rattle.cle_table.specs.Numbers.{ways_in, WayNumbered, WayBelow, seeds_of, edges_of}
use Rattle.cle_table.specs.Lists.{AreLists}
use Rattle.cle_table.proofs.Graphs.{seeds_within, sources_within, targets_within, labels_within}
use Rattle.cle_table.proofs.Exactly.{is_exact}
use Rattle.cle_table.proofs.table.Table.along.Goals as goal

pub propagate-requires-clause-seeds : goal.propagate-requires-clause-seeds
propagate-requires-clause-seeds c =
    subst (λ (n : ℕ). All (λ (d : Seed). d.node < n) c.as_slice.result.now) (sym c.len.ensures)
    (subst (λ (ds : List Seed). All (λ (d : Seed). d.node < length c.in_ok-nodes.nodes.holders.items) ds) (sym (c.as_slice.ensures.value ∙ c.in_ok-laid.ensures.seeds))
    (seeds_within c.in_ok-nodes.nodes c.args.ways.now c.in_ok-nodes.ensures.numbered c.in_ok-nodes.ensures.all))

pub propagate-requires-clause-labels : goal.propagate-requires-clause-labels
propagate-requires-clause-labels c =
    subst (λ (ds : List Seed). All (λ (d : Seed). d.label < c.count_labels-count.result) ds) (sym (c.as_slice.ensures.value ∙ c.in_ok-laid.ensures.seeds))
    (labels_within c.in_ok-nodes.nodes c.args.ways.now c.count_labels-count.result c.count_labels-count.ensures.below)

pub propagate-requires-clause-sources : goal.propagate-requires-clause-sources
propagate-requires-clause-sources c =
    subst (λ (n : ℕ). All (λ (d : Edge). d.from < n) c.as_slice-2.result.now) (sym c.len.ensures)
    (subst (λ (ds : List Edge). All (λ (d : Edge). d.from < length c.in_ok-nodes.nodes.holders.items) ds) (sym (c.as_slice-2.ensures.value ∙ c.in_ok-laid.ensures.edges))
    (sources_within c.in_ok-nodes.nodes c.args.ways.now c.in_ok-nodes.ensures.numbered c.in_ok-nodes.ensures.all))

pub propagate-requires-clause-targets : goal.propagate-requires-clause-targets
propagate-requires-clause-targets c =
    subst (λ (n : ℕ). All (λ (d : Edge). d.to < n) c.as_slice-2.result.now) (sym c.len.ensures)
    (subst (λ (ds : List Edge). All (λ (d : Edge). d.to < length c.in_ok-nodes.nodes.holders.items) ds) (sym (c.as_slice-2.ensures.value ∙ c.in_ok-laid.ensures.edges))
    (targets_within c.in_ok-nodes.nodes c.args.ways.now c.in_ok-nodes.ensures.numbered c.in_ok-nodes.ensures.all))

pub returns : goal.returns
returns c = λ notes e.
    let t : Table = record { nodes = c.in_ok-nodes.nodes; bits = c.in_ok-bits.bits; lists = c.in_ok-lists.lists } in
    let seeds : c.as_slice.result.now ≡ seeds_of t.nodes (ways_in notes) = c.as_slice.ensures.value ∙ (c.in_ok-laid.ensures.seeds ∙ ap (λ ws. seeds_of t.nodes ws) e) in
    let edges : c.as_slice-2.result.now ≡ edges_of t.nodes (ways_in notes) = c.as_slice-2.ensures.value ∙ (c.in_ok-laid.ensures.edges ∙ ap (λ ws. edges_of t.nodes ws) e) in
    is_exact notes t c.count_labels-count.result c.in_ok-nodes.ensures.numbered
    (subst (λ (ws : List Way). All (WayNumbered t.nodes) ws) e c.in_ok-nodes.ensures.all)
    (subst (λ (ws : List Way). All (WayBelow c.count_labels-count.result) ws) e c.count_labels-count.ensures.below)
    (λ m x b. subst (λ (es : List Edge). graph.Carries (seeds_of t.nodes (ways_in notes)) es m x) edges (subst (λ (ds : List Seed). graph.Carries ds c.as_slice-2.result.now m x) seeds (c.in_ok-bits.ensures.sound m x b)))
    (λ m x r. c.in_ok-bits.ensures.complete m x (subst (λ (ds : List Seed). graph.Carries ds c.as_slice-2.result.now m x) (sym seeds) (subst (λ (es : List Edge). graph.Carries (seeds_of t.nodes (ways_in notes)) es m x) (sym edges) r)))
    (subst (λ (n : ℕ). AreLists t.bits c.count_labels-count.result n t.lists) c.len-2.ensures c.in_ok-lists.ensures)
