use Rattle.mean_laws.proofs.WholeRuns.{greater}
use Rattle.mean_laws.proofs.runs.greater_bound_gives_the_same.Goals as goal

pub returns : goal.returns
returns c = greater
