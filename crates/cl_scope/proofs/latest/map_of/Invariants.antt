use Rattle.std.proofs.Common.{◌≡◌, ◌<◌, drop}
use Rattle.cl_scope.specs.Table.{map_from}
use Rattle.cl_scope.proofs.latest.map_of.Given as goal

abbrev pub invariant-loop-byte : goal.invariant-loop-byte
invariant-loop-byte l = record {
  below : l.map < 4096;
  rest : map_from l.map (drop l.byte-index l.name) ≡ map_from 0 l.name;
}
