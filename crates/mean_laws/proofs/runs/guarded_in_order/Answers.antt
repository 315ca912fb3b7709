use Rattle.mean_laws.proofs.GuardedThen.{guarded_then}
use Rattle.mean_laws.proofs.runs.guarded_in_order.Goals as goal

pub returns : goal.returns
returns g c = guarded_then
