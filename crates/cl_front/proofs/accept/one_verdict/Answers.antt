use Rattle.cl_front.proofs.Verdicts.{not_refused, one_checked, one_refusal}
use Rattle.cl_front.proofs.accept.one_verdict.Goals as goal

pub returns-clause-not_both : goal.returns-clause-not_both
returns-clause-not_both c = λ source x rule line a f. not_refused source x a rule line f

pub returns-clause-one_checked : goal.returns-clause-one_checked
returns-clause-one_checked c = one_checked

pub returns-clause-one_refusal : goal.returns-clause-one_refusal
returns-clause-one_refusal c = one_refusal
