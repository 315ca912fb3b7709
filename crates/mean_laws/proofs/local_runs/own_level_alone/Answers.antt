use Rattle.mean_laws.proofs.Placed.{same_local, same_output}
use Rattle.mean_laws.proofs.local_runs.own_level_alone.Goals as goal

pub returns-clause-run : goal.returns-clause-run
returns-clause-run c = same_local

pub returns-clause-output : goal.returns-clause-output
returns-clause-output c = same_output
