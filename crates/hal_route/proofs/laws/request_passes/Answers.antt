use Rattle.hal_route.proofs.Takes.{request_passes}
use Rattle.hal_route.proofs.laws.request_passes.Goals as goal

pub returns : goal.returns
returns c = request_passes c.one_header.ensures c.header_returns.ensures
