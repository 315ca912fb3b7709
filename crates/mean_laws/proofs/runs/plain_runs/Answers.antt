use Rattle.mean_laws.proofs.PlainRuns.{plain_labels, plain_never_asks}
use Rattle.mean_laws.proofs.runs.plain_runs.Goals as goal

pub returns-clause-labels : goal.returns-clause-labels
returns-clause-labels c = plain_labels

pub returns-clause-asks : goal.returns-clause-asks
returns-clause-asks c = plain_never_asks
