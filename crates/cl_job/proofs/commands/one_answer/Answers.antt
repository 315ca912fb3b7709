-- The front end has one verdict on a source, and so a command has one expected answer.
use Rattle.cl_job.proofs.One.{answer_one}
use Rattle.cl_job.proofs.commands.one_answer.Goals as goal

pub returns : goal.returns
returns c = answer_one c.one_verdict.ensures.not_both c.one_verdict.ensures.one_checked c.one_verdict.ensures.one_refusal
