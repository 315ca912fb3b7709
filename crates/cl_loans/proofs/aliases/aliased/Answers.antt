use Rattle.cl_loans.proofs.Searched.{answer}
use Rattle.cl_loans.proofs.aliases.aliased.Goals as goal

pub returns : goal.returns
returns c = answer c.args.typed.now c.args.bodies.now c.in_ok-named.named c.requires.below c.requires.uses c.in_ok-named.ensures c.look.result c.look.ensures
