use Rattle.cl_read.proofs.One.{has_answer, one_side_only, one_failure}
use Rattle.cl_read.proofs.read.one_answer.Goals as goal

pub returns-clause-some : goal.returns-clause-some
returns-clause-some c = has_answer

pub returns-clause-not_both : goal.returns-clause-not_both
returns-clause-not_both c = one_side_only

pub returns-clause-one_failure : goal.returns-clause-one_failure
returns-clause-one_failure c = one_failure
