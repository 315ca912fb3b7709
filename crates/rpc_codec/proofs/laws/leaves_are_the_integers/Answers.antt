use Rattle.rpc_codec.proofs.Under.{kinds_are, places_are}
use Rattle.rpc_codec.proofs.laws.leaves_are_the_integers.Goals as goal

pub returns-clause-kinds : goal.returns-clause-kinds
returns-clause-kinds c = kinds_are

pub returns-clause-places : goal.returns-clause-places
returns-clause-places c = places_are
