use Rattle.hal_route.proofs.Channels.{channel_at}
use Rattle.hal_route.proofs.laws.channels_by_row.Goals as goal

pub returns : goal.returns
returns c = channel_at
