use Rattle.cl_lex.proofs.Total.{an_answer}
use Rattle.cl_lex.proofs.lex.an_answer.Goals as goal

pub returns : goal.returns
returns c = an_answer
