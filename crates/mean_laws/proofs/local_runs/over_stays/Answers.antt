use Rattle.mean_laws.proofs.LocalRuns.{local_over}
use Rattle.mean_laws.proofs.local_runs.over_stays.Goals as goal

pub returns : goal.returns
returns c = local_over
