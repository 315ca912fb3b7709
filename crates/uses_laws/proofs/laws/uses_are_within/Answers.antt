use Rattle.uses_laws.proofs.Bounds.{all_within}
use Rattle.uses_laws.proofs.laws.uses_are_within.Goals as goal

pub returns : goal.returns
returns c = all_within
