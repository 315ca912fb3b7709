-- What the front end answers of a source is its verdict.
use Rattle.std.proofs.Common.{subst}
use Rattle.cl_front.specs.Verdict.{IsRefusal}
use Rattle.cl_job.proofs.CheckAnswers.{listed_is, rule_fails}
use Rattle.cl_job.proofs.job.Job.check_bytes.Goals as goal

pub returns-in-Ok-clause-answered : goal.returns-in-Ok-clause-answered
returns-in-Ok-clause-answered g c = λ settled.
    listed_is c.args.source.now c.in-Ok.checked c.list.result c.args.self.now c.list.new.self c.requires c.in-Ok.ensures.found c.list.ensures.lists c.list.ensures.files_stand
    c.list.ensures.quiet settled

pub returns-in-Err-Refused-clause-answered : goal.returns-in-Err-Refused-clause-answered
returns-in-Err-Refused-clause-answered g c = λ settled.
    rule_fails c.args.source.now (record { rule = c.in-Err-Refused.rule; line = c.in-Err-Refused.line }) c.refuse.result c.args.self.now c.refuse.new.self c.requires
    (subst (IsRefusal c.args.source.now) c.in-Err-Refused.field-0-is c.in-Err-Refused.ensures.fails) c.refuse.ensures.refuses c.refuse.ensures.rest settled
