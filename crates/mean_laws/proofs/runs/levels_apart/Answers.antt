use Rattle.mean_laws.proofs.Placed.{come_apart}
use Rattle.mean_laws.proofs.runs.levels_apart.Goals as goal

pub returns : goal.returns
returns c = come_apart
