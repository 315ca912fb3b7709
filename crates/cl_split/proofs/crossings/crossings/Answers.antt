use Rattle.cl_split.specs.Answer.{levelled}
use Rattle.cl_split.proofs.Refused.{answer_only, answer_rule}
use Rattle.cl_split.proofs.crossings.crossings.Goals as goal

pub returns-clause-only : goal.returns-clause-only
returns-clause-only c = answer_only (levelled c.args.typed.now c.args.labels.now c.args.levels.now) c.cross_program.result c.cross_program.ensures

pub returns-clause-rule : goal.returns-clause-rule
returns-clause-rule c = answer_rule (levelled c.args.typed.now c.args.labels.now c.args.levels.now) c.cross_program.result c.cross_program.ensures
