use Rattle.std.proofs.Common.{◌≡◌, ◌++◌, drop}
use Rattle.cl_mean.specs.Shape.{structs_of}
use Rattle.rpc_codec.specs.Signature.{array_leaves}
use Rattle.rpc_codec.proofs.signature.push_arrays.Given as goal

abbrev pub invariant-loop-param : goal.invariant-loop-param
invariant-loop-param l =
    l.out.items ++ array_leaves (structs_of l.items) (drop l.param-index l.params) l.path
    ≡ l.initial.out.items ++ array_leaves (structs_of l.items) l.params l.path
