use Rattle.cl_lex.proofs.Brought.{brought}
use Rattle.cl_lex.proofs.lex.brings_only.Goals as goal

pub returns : goal.returns
returns c = brought
