use Rattle.std.proofs.Common.{rules}
use Rattle.cl_mean.specs.Shape.{structs_of}
use Rattle.rpc_codec.proofs.Structs.{array_part, other_part}
use Rattle.rpc_codec.proofs.signature.push_if_array.Goals as goal

pub returns-in-Array : goal.returns-in-Array
returns-in-Array c = rw (array_part (structs_of c.args.items.now) c.args.param.now.ctype _ _ _ _ c.in-Array.is) (search rules)

pub returns-in_default : goal.returns-in_default
returns-in_default c = rw (other_part (structs_of c.args.items.now) c.args.param.now.ctype _ _ c.in_default.not-Array) (search rules)
