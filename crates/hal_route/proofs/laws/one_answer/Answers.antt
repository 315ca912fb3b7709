use Rattle.hal_route.proofs.Takes.{one_answer}
use Rattle.hal_route.proofs.laws.one_answer.Goals as goal

pub returns : goal.returns
returns c = one_answer c.one_header.ensures
