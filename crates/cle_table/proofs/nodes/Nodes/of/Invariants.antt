use Rattle.std.proofs.Common.{All, take}
use Rattle.cle_table.specs.Numbers.{IsNumbered, WayNumbered}
use Rattle.cle_table.proofs.nodes.Nodes.of.Given as goal

abbrev pub invariant-loop-way : goal.invariant-loop-way
invariant-loop-way l = record {
  numbered : IsNumbered l.nodes;
  all : All (WayNumbered l.nodes) (take l.way-index l.ways);
}
