use Rattle.cle_items.proofs.Labels.{kinds_are, objects_are, functions_are, bearers_are}
use Rattle.cle_items.proofs.laws.by_numbers.Goals as goal

pub returns-clause-kinds : goal.returns-clause-kinds
returns-clause-kinds c = kinds_are

pub returns-clause-objects : goal.returns-clause-objects
returns-clause-objects c = objects_are

pub returns-clause-functions : goal.returns-clause-functions
returns-clause-functions c = functions_are

pub returns-clause-bearers : goal.returns-clause-bearers
returns-clause-bearers c = bearers_are
