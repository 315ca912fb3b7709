use Rattle.mean_laws.proofs.WholeRuns.{labels}
use Rattle.mean_laws.proofs.runs.labels_do_not_matter.Goals as goal

pub returns : goal.returns
returns c = labels
