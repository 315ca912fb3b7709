use Rattle.std.proofs.Common.{rules}
use Rattle.rpc_codec.proofs.Signatures.{payload_is}
use Rattle.rpc_codec.proofs.signature.leaves_of.Goals as goal

pub returns-in_default : goal.returns-in_default
returns-in_default c = rw (payload_is c.args.checked.now c.args.function c.args.reply c.args.path.now) (search rules)

pub returns : goal.returns
returns c = rw (payload_is c.args.checked.now c.args.function c.args.reply c.args.path.now) (search rules)
