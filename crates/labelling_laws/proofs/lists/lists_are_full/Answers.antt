use Rattle.labelling_laws.proofs.Tables.{functions_counted, objects_counted}
use Rattle.labelling_laws.proofs.lists.lists_are_full.Goals as goal

pub returns-clause-functions : goal.returns-clause-functions
returns-clause-functions c = functions_counted

pub returns-clause-objects : goal.returns-clause-objects
returns-clause-objects c = objects_counted
