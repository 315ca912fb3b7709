use Rattle.typing_laws.proofs.Limited.{bodies, params, locals}
use Rattle.typing_laws.proofs.sizes.locals_are_within.Goals as goal

pub returns-clause-all : goal.returns-clause-all
returns-clause-all c = bodies

pub returns-clause-params : goal.returns-clause-params
returns-clause-params c = params

pub returns-clause-locals : goal.returns-clause-locals
returns-clause-locals c = locals
