use Rattle.guard_rules.proofs.Answered.{answer_found, answer_only, answer_fails, answer_rule}
use Rattle.guard_rules.proofs.policy.read_policy.Goals as goal

pub returns : goal.returns
returns c = record {
  found = answer_found c.args.checked.now c.args.bytes.now c.read.result c.read.ensures;
  only = answer_only c.args.checked.now c.args.bytes.now c.read.result c.read.ensures;
  fails = answer_fails c.args.checked.now c.args.bytes.now c.read.result c.read.ensures;
  rule = answer_rule c.args.checked.now c.args.bytes.now c.read.result c.read.ensures;
}
