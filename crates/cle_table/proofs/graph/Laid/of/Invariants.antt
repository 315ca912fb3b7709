use Rattle.std.proofs.Common.{◌≡◌, ◌++◌, drop}
use Rattle.cle_table.specs.Numbers.{seeds_of, edges_of}
use Rattle.cle_table.proofs.graph.Laid.of.Given as goal

abbrev pub invariant-loop-way : goal.invariant-loop-way
invariant-loop-way l = record {
  seeds : l.laid.seeds.items ++ seeds_of l.nodes (drop l.way-index l.ways) ≡ seeds_of l.nodes l.ways;
  edges : l.laid.edges.items ++ edges_of l.nodes (drop l.way-index l.ways) ≡ edges_of l.nodes l.ways;
}
