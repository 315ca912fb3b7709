use Rattle.typing_laws.proofs.Further.{outermost_stands, part_stands}
use Rattle.typing_laws.proofs.places.statements_stand.Goals as goal

pub returns-clause-outermost : goal.returns-clause-outermost
returns-clause-outermost c = outermost_stands

pub returns-clause-parts : goal.returns-clause-parts
returns-clause-parts c = part_stands
