use Rattle.labelling_laws.proofs.Tables.{levels_are_few, labels_within, on_functions_within, on_objects_within}
use Rattle.labelling_laws.proofs.within.numbers_are_within.Goals as goal

pub returns-clause-levels : goal.returns-clause-levels
returns-clause-levels c = levels_are_few

pub returns-clause-labels : goal.returns-clause-labels
returns-clause-labels c = labels_within

pub returns-clause-functions : goal.returns-clause-functions
returns-clause-functions c = on_functions_within

pub returns-clause-objects : goal.returns-clause-objects
returns-clause-objects c = on_objects_within
