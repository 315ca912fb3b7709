-- The report of a run that is over is the meaning's.
use Rattle.cl_job.proofs.RunAnswers.{put_whole}
use Rattle.cl_job.proofs.job.Job.put_finished.Goals as goal

pub returns-in-Ok-clause-puts : goal.returns-in-Ok-clause-puts
returns-in-Ok-clause-puts g c =
    rw (← c.self.view_is) (put_whole _ _ _ _ _ _ _ _ c.requires c.status_of.ensures c.as_slice-names.ensures c.in-Ok.ensures.wrote)
