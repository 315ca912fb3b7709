use Rattle.cl_parse.proofs.Answered.{answer_rule}
use Rattle.cl_parse.proofs.reader.parse.Goals as goal

pub returns-clause-rule : goal.returns-clause-rule
returns-clause-rule c = answer_rule c.args.tokens.now c.read_program.result c.read_program.ensures
