use Rattle.cl_sema.proofs.Answered.{answer_found, answer_only, answer_fails, answer_rule}
use Rattle.cl_sema.proofs.resolve.resolve.Goals as goal

pub returns : goal.returns
returns c = record {
  found = answer_found c.args.program c.type_program.result c.type_program.ensures;
  only = answer_only c.args.program c.type_program.result c.type_program.ensures;
  fails = answer_fails c.args.program c.type_program.result c.type_program.ensures;
  rule = answer_rule c.args.program c.type_program.result c.type_program.ensures;
}
