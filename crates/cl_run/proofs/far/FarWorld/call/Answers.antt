use Rattle.cl_run.proofs.Levels.{far_call}
use Rattle.cl_run.proofs.far.FarWorld.call.Goals as goal

pub returns-clause-step : goal.returns-clause-step
returns-clause-step c = far_call _ _ _ _ _ _ c.requires.fits.0 c.requires.fits.1
