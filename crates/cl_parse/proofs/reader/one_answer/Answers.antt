use Rattle.cl_parse.proofs.Answered.{one_side, same_failure}
use Rattle.cl_parse.proofs.Reread.{one_reading, has_answer}
use Rattle.cl_parse.proofs.reader.one_answer.Goals as goal

pub returns-clause-some : goal.returns-clause-some
returns-clause-some c = has_answer

pub returns-clause-not_both : goal.returns-clause-not_both
returns-clause-not_both c = one_side

pub returns-clause-one_program : goal.returns-clause-one_program
returns-clause-one_program c = one_reading

pub returns-clause-one_failure : goal.returns-clause-one_failure
returns-clause-one_failure c = same_failure
