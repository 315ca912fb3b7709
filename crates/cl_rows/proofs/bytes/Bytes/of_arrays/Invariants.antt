use Rattle.std.proofs.Common.{◌≡◌, ◌≤◌, ◌+◌, drop}
use Rattle.cl_rows.specs.Capped.{most, capped}
use Rattle.cl_rows.specs.Bytes.{arrays_bytes, structs_in}
use Rattle.cl_rows.proofs.bytes.Bytes.of_arrays.Given as goal

abbrev pub invariant-loop-d : goal.invariant-loop-d
invariant-loop-d l = record {
  rest : capped (l.total + arrays_bytes (structs_in l.self) (drop l.d-index l.ds)) ≡ capped (arrays_bytes (structs_in l.self) l.ds);
  small : l.total ≤ most;
}
