use Rattle.std.proofs.Common.{◌≡◌, ◌+◌, ◌++◌, drop, take, length}
use Rattle.cl_mean.specs.Journal.{payload_numbers}
use Rattle.cl_mean.specs.Shape.{total_size}
use Rattle.rpc_codec.proofs.payload.decode.Given as goal

abbrev pub invariant-loop-place : goal.invariant-loop-place
invariant-loop-place l = record {
  numbers : take l.place l.values ++ payload_numbers (drop l.place l.layout) (drop l.at l.bytes) ≡ payload_numbers l.layout l.bytes;
  long : l.at + total_size (drop l.place l.layout) ≡ length l.bytes;
  count : length l.values ≡ length l.layout;
}
