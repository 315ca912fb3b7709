use Rattle.std.proofs.Common.{◌≡◌, length, take}
use Rattle.cl_reach.specs.Reach.{Rows}
use Rattle.cl_reach.proofs.graph.Graph.of.Given as goal

abbrev pub invariant-loop-edge : goal.invariant-loop-edge
invariant-loop-edge l = record {
  same_length : length l.graph ≡ l.nodes;
  edges : Rows (take l.edge-index l.edges) l.graph;
}
