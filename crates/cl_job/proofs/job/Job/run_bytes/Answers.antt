-- No reading was found, so there is none.
use Rattle.std.proofs.Common.{refl, inr}
use Rattle.cl_job.specs.RunAnswer.{HasNoReading}
use Rattle.cl_job.proofs.RunAnswers.{refused, no_reading}
use Rattle.cl_job.proofs.job.Job.run_bytes.Goals as goal

pub returns-in-Err-NoReading-clause-answered : goal.returns-in-Err-NoReading-clause-answered
returns-in-Err-NoReading-clause-answered g c =
    refused _ _ _ _ _ _ (inr (record { short = c.requires; none = λ checked form. no_reading _ _ _ c.in-Err-NoReading.is c.in-Err-NoReading.field-0-is (c.read_form.ensures.only checked form); is = refl })) c.refuse.ensures.refuses c.refuse.ensures.rest
