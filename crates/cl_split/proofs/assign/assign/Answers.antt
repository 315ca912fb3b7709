use Rattle.cl_split.specs.Answer.{annotated}
use Rattle.cl_split.proofs.Answered.{answer_only, answer_rule}
use Rattle.cl_split.proofs.assign.assign.Goals as goal

pub returns-clause-only : goal.returns-clause-only
returns-clause-only c = answer_only (annotated c.args.typed.now c.args.labels.now) c.level_program.result c.level_program.ensures

pub returns-clause-rule : goal.returns-clause-rule
returns-clause-rule c = answer_rule (annotated c.args.typed.now c.args.labels.now) c.level_program.result c.level_program.ensures
