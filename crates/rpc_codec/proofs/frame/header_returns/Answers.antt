use Rattle.rpc_codec.proofs.Fields.{header_returns}
use Rattle.rpc_codec.proofs.frame.header_returns.Goals as goal

pub returns : goal.returns
returns c = header_returns
