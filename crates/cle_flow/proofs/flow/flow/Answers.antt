use Rattle.cle_ways.specs.Programs.{levelled}
use Rattle.cle_flow.proofs.Answered.{answer_found, answer_only, answer_fails, answer_rule}
use Rattle.cle_flow.proofs.flow.flow.Goals as goal

pub returns-clause-found : goal.returns-clause-found
returns-clause-found c = answer_found (levelled c.args.typed.now c.args.labels.now c.args.levels.now) c.flow_program.result c.flow_program.ensures

pub returns-clause-only : goal.returns-clause-only
returns-clause-only c = answer_only (levelled c.args.typed.now c.args.labels.now c.args.levels.now) c.flow_program.result c.flow_program.ensures

pub returns-clause-fails : goal.returns-clause-fails
returns-clause-fails c = answer_fails (levelled c.args.typed.now c.args.labels.now c.args.levels.now) c.flow_program.result c.flow_program.ensures

pub returns-clause-rule : goal.returns-clause-rule
returns-clause-rule c = answer_rule (levelled c.args.typed.now c.args.labels.now c.args.levels.now) c.flow_program.result c.flow_program.ensures
