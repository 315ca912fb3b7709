use Rattle.rpc_codec.proofs.Payloads.{payload_long}
use Rattle.rpc_codec.proofs.laws.payload_is_long.Goals as goal

pub returns : goal.returns
returns c = payload_long
