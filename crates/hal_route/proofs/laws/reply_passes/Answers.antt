use Rattle.hal_route.proofs.Takes.{reply_passes}
use Rattle.hal_route.proofs.laws.reply_passes.Goals as goal

pub returns : goal.returns
returns c = reply_passes c.one_header.ensures c.header_returns.ensures
