use Rattle.rpc_codec.proofs.Payloads.{bytes_return, numbers_fit}
use Rattle.rpc_codec.proofs.laws.bytes_return.Goals as goal

pub returns-clause-bytes : goal.returns-clause-bytes
returns-clause-bytes c = bytes_return

pub returns-clause-fits : goal.returns-clause-fits
returns-clause-fits c = numbers_fit
