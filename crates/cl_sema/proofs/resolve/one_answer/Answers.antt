use Rattle.cl_sema.proofs.Answered.{has_answer, one_side, one_typing, one_failure}
use Rattle.cl_sema.proofs.resolve.one_answer.Goals as goal

pub returns : goal.returns
returns c = record { some = has_answer; not_both = one_side; one_typing = one_typing; one_failure = one_failure }
