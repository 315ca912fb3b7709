use Rattle.typing_laws.proofs.Alike.{shapes_alike, kinds_alike, places_alike}
use Rattle.typing_laws.proofs.meanings.expressions_mean_their_types.Goals as goal

pub returns-clause-shapes : goal.returns-clause-shapes
returns-clause-shapes c = shapes_alike

pub returns-clause-kinds : goal.returns-clause-kinds
returns-clause-kinds c = kinds_alike

pub returns-clause-places : goal.returns-clause-places
returns-clause-places c = places_alike
