use Rattle.std.proofs.Common.{◌≡◌, ◌≤◌, ◌+◌, drop}
use Rattle.cl_rows.specs.Capped.{most, capped}
use Rattle.cl_rows.specs.Bytes.{declared_bytes, structs_in}
use Rattle.cl_rows.proofs.bytes.Bytes.of_all.Given as goal

abbrev pub invariant-loop-d : goal.invariant-loop-d
invariant-loop-d l = record {
  rest : capped (l.total + declared_bytes (structs_in l.self) (drop l.d-index l.ds)) ≡ capped (declared_bytes (structs_in l.self) l.ds);
  small : l.total ≤ most;
}
