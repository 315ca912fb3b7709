use Rattle.cle_defs.proofs.Answered.{answer_found, answer_only, answer_fails, answer_rule}
use Rattle.cle_defs.proofs.labels.labels.Goals as goal

pub returns : goal.returns
returns c = record {
  found = answer_found c.args.typed.now c.label_program.result c.label_program.ensures;
  only = answer_only c.args.typed.now c.label_program.result c.label_program.ensures;
  fails = answer_fails c.args.typed.now c.label_program.result c.label_program.ensures;
  rule = answer_rule c.args.typed.now c.label_program.result c.label_program.ensures;
}
