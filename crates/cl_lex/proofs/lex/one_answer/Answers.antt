use Rattle.cl_lex.proofs.Cuts.{one_answer}
use Rattle.cl_lex.proofs.lex.one_answer.Goals as goal

pub returns : goal.returns
returns c = one_answer
