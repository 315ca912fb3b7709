use Rattle.rpc_codec.proofs.Fields.{one_header}
use Rattle.rpc_codec.proofs.frame.one_header.Goals as goal

pub returns : goal.returns
returns c = one_header
