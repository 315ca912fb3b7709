use Rattle.std.proofs.Common.{rules}
use Rattle.cl_run.proofs.Start.{start_stands}
use Rattle.cl_run.proofs.run.start.Goals as goal

pub returns-clause-stands : goal.returns-clause-stands
returns-clause-stands c = start_stands _ _ (search rules) c.in_ok-hal.ensures
