use Rattle.rpc_codec.proofs.Payloads.{numbers_return}
use Rattle.rpc_codec.proofs.laws.numbers_return.Goals as goal

pub returns : goal.returns
returns c = numbers_return
