use Rattle.std.proofs.Common.{◌≡◌, ◌≤◌, ◌+◌, drop}
use Rattle.cl_rows.specs.Capped.{most, capped}
use Rattle.cl_rows.specs.Bytes.{members_bytes, structs_in}
use Rattle.cl_rows.proofs.bytes.Bytes.of_members.Given as goal

abbrev pub invariant-loop-m : goal.invariant-loop-m
invariant-loop-m l = record {
  rest : capped (l.total + members_bytes (structs_in l.self) (drop l.m-index l.members)) ≡ capped (members_bytes (structs_in l.self) l.members);
  small : l.total ≤ most;
}
