use Rattle.cl_front.proofs.Verdicts.{answer_found, answer_only, answer_fails, answer_rule}
use Rattle.cl_front.proofs.accept.accept.Goals as goal

pub returns-clause-found : goal.returns-clause-found
returns-clause-found c = answer_found c.args.bytes.now c.accept_source.result c.accept_source.ensures

pub returns-clause-only : goal.returns-clause-only
returns-clause-only c = answer_only c.args.bytes.now c.accept_source.result c.accept_source.ensures

pub returns-clause-fails : goal.returns-clause-fails
returns-clause-fails c = answer_fails c.args.bytes.now c.accept_source.result c.accept_source.ensures

pub returns-clause-rule : goal.returns-clause-rule
returns-clause-rule c = answer_rule c.args.bytes.now c.accept_source.result c.accept_source.ensures
