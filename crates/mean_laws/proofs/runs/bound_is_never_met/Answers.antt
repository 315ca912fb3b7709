use Rattle.mean_laws.proofs.Bound.{guarded_unmet, greater_same, plain_unmet, plain_same}
use Rattle.mean_laws.proofs.runs.bound_is_never_met.Goals as goal

pub returns-clause-guarded : goal.returns-clause-guarded
returns-clause-guarded c = guarded_unmet

pub returns-clause-guarded_greater : goal.returns-clause-guarded_greater
returns-clause-guarded_greater c = greater_same

pub returns-clause-plain : goal.returns-clause-plain
returns-clause-plain c = plain_unmet

pub returns-clause-plain_greater : goal.returns-clause-plain_greater
returns-clause-plain_greater c = plain_same
