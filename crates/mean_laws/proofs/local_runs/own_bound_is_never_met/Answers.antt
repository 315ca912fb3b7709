use Rattle.mean_laws.proofs.LocalBound.{begins_unmet, local_unmet}
use Rattle.mean_laws.proofs.local_runs.own_bound_is_never_met.Goals as goal

pub returns-clause-main : goal.returns-clause-main
returns-clause-main c = begins_unmet

pub returns-clause-frames : goal.returns-clause-frames
returns-clause-frames c = local_unmet
