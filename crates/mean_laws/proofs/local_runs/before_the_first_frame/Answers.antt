use Rattle.mean_laws.proofs.Adds.{quiet, first}
use Rattle.mean_laws.proofs.local_runs.before_the_first_frame.Goals as goal

pub returns-clause-others : goal.returns-clause-others
returns-clause-others c = quiet

pub returns-clause-main : goal.returns-clause-main
returns-clause-main c = first
