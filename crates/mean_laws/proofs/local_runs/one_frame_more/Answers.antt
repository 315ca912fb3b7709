use Rattle.mean_laws.proofs.LocalRuns.{local_more}
use Rattle.mean_laws.proofs.local_runs.one_frame_more.Goals as goal

pub returns : goal.returns
returns c = local_more
