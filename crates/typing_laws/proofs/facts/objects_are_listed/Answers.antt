use Rattle.typing_laws.proofs.Listing.{objects_each, object_is, owner_is}
use Rattle.typing_laws.proofs.facts.objects_are_listed.Goals as goal

pub returns-clause-each : goal.returns-clause-each
returns-clause-each c = objects_each

pub returns-clause-facts : goal.returns-clause-facts
returns-clause-facts c = object_is

pub returns-clause-owners : goal.returns-clause-owners
returns-clause-owners c = owner_is
