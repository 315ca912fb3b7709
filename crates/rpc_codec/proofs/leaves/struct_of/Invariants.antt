use Rattle.std.proofs.Common.{◌≡◌, take, None}
use Rattle.cl_mean.specs.Shape.{structs_of}
use Rattle.cl_tree.specs.Words.{entry}
use Rattle.rpc_codec.proofs.leaves.struct_of.Given as goal

abbrev pub invariant-loop-place : goal.invariant-loop-place
invariant-loop-place l = entry (structs_of (take l.place l.items)) l.tag ≡ None
