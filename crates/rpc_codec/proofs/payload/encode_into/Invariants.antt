use Rattle.std.proofs.Common.{◌≡◌, ◌+◌, ◌++◌, drop, length}
use Rattle.cl_mean.specs.Journal.{payload_bytes}
use Rattle.cl_mean.specs.Shape.{total_size}
use Rattle.rpc_codec.proofs.payload.encode_into.Given as goal

abbrev pub invariant-loop-place : goal.invariant-loop-place
invariant-loop-place l = record {
  bytes : l.buf ++ payload_bytes (drop l.place l.layout) (drop l.place l.values) ≡ l.initial.buf ++ payload_bytes l.layout l.values;
  long : length l.buf + total_size (drop l.place l.layout) ≡ length l.initial.buf + total_size l.layout;
}
