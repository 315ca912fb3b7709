use Rattle.mean_laws.proofs.Adds.{local_adds}
use Rattle.mean_laws.proofs.local_runs.turns_grow.Goals as goal

pub returns : goal.returns
returns c = local_adds
