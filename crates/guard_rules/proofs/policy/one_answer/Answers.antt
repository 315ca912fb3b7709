use Rattle.guard_rules.proofs.Answered.{has_answer, one_side, one_law, one_failure}
use Rattle.guard_rules.proofs.policy.one_answer.Goals as goal

pub returns : goal.returns
returns c = record { some = has_answer; not_both = one_side; one_law = one_law; one_failure = one_failure }
