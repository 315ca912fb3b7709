use Rattle.typing_laws.proofs.Limited.{objects_each, static_locals, all_integers}
use Rattle.typing_laws.proofs.sizes.objects_are_within.Goals as goal

pub returns-clause-each : goal.returns-clause-each
returns-clause-each c = objects_each

pub returns-clause-locals : goal.returns-clause-locals
returns-clause-locals c = static_locals

pub returns-clause-all : goal.returns-clause-all
returns-clause-all c = all_integers
