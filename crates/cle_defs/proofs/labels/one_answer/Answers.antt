use Rattle.cle_defs.proofs.Answered.{has_answer, one_side, one_table, one_failure}
use Rattle.cle_defs.proofs.labels.one_answer.Goals as goal

pub returns : goal.returns
returns c = record { some = has_answer; not_both = one_side; one_table = one_table; one_failure = one_failure }
