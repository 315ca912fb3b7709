use Rattle.std.proofs.Common.{arith, ◌<◌, ◌≡◌, ◌+◌, length, take, get_or, List, ℕ, subst, sym, ap, ◌∙◌}
use Rattle.std.proofs.lemmas.List.{length-set}
use Rattle.cl_reach.specs.declared.graph.Edge.{Edge}
use Rattle.cl_reach.specs.Reach.{Rows}
use Rattle.cl_reach.proofs.Edges.{rows_more, with_edge}
use Rattle.cl_reach.proofs.graph.Graph.of.Goals as goal

pub loop-edge-preserved : goal.loop-edge-preserved
loop-edge-preserved c =
    let d : Edge = record { from = 0; to = 0 } in
    let i : c.loop-edge.edge-index < length c.args.edges.now = omega arith in
    let from : (get_or c.args.edges.now c.loop-edge.edge-index d).from < c.args.nodes = c.requires c.loop-edge.edge-index d i in
    let e : c.add.new.self ≡ with_edge c.loop-edge.graph (get_or c.args.edges.now c.loop-edge.edge-index d) = c.in_ok-add.ensures in
    let l : length c.loop-edge.graph ≡ c.args.nodes = c.loop-edge.invariant.same_length in
    record {
      same_length = ap (λ (g : List (List ℕ)). length g) e ∙ length-set c.loop-edge.graph _ _ ∙ l;
      edges = subst (λ (g : List (List ℕ)). Rows (take (c.loop-edge.edge-index + 1) c.args.edges.now) g) (sym e) (rows_more c.args.edges.now c.loop-edge.edge-index d c.loop-edge.graph i (omega arith) c.loop-edge.invariant.edges);
    }
