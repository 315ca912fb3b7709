use Rattle.hal_route.proofs.Takes.{stop_passes}
use Rattle.hal_route.proofs.laws.stop_passes.Goals as goal

pub returns : goal.returns
returns c = stop_passes c.one_header.ensures c.header_returns.ensures
