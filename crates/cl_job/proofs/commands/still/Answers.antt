-- Words without a reading, and those of a run, are answered by the usage text.
use Rattle.cl_job.proofs.Asked.{usage_answered}
use Rattle.cl_job.proofs.commands.still.Goals as goal

pub returns-in-None-clause-answered : goal.returns-in-None-clause-answered
returns-in-None-clause-answered g c =
    λ _. usage_answered _ _ _ _ _ c.in-None.ensures c.explain.ensures.status c.explain.ensures.text c.explain.ensures.rest
