use Rattle.mean_laws.proofs.Placed.{leaves_others}
use Rattle.mean_laws.proofs.runs.other_levels_stay.Goals as goal

pub returns : goal.returns
returns c = leaves_others
