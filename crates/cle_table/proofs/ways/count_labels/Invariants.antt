use Rattle.std.proofs.Common.{◌≤◌, ◌^◌, All, take}
use Rattle.cle_table.specs.Numbers.{WayBelow}
use Rattle.cle_table.proofs.ways.count_labels.Given as goal

abbrev pub invariant-loop-way : goal.invariant-loop-way
invariant-loop-way l = record {
  below : All (WayBelow l.count) (take l.way-index l.ways);
  few : l.count ≤ 2 ^ 33;
}
