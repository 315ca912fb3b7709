use Rattle.std.proofs.Common.{◌≡◌, ◌+◌, drop}
use Rattle.cl_mean.specs.Shape.{total_size}
use Rattle.rpc_codec.proofs.sizes.total_size.Given as goal

abbrev pub invariant-loop-kind : goal.invariant-loop-kind
invariant-loop-kind l = l.total + total_size (drop l.kind-index l.kinds) ≡ total_size l.kinds
