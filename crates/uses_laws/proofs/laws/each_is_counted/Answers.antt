use Rattle.uses_laws.proofs.Counts.{functions_count, objects_count, functions_within, objects_within}
use Rattle.uses_laws.proofs.Light.{numbered_small}
use Rattle.uses_laws.proofs.laws.each_is_counted.Goals as goal

pub returns-clause-functions : goal.returns-clause-functions
returns-clause-functions c = functions_count

pub returns-clause-objects : goal.returns-clause-objects
returns-clause-objects c = objects_count

pub returns-clause-few_functions : goal.returns-clause-few_functions
returns-clause-few_functions c = functions_within

pub returns-clause-few_objects : goal.returns-clause-few_objects
returns-clause-few_objects c = objects_within

pub returns-clause-few_numbered : goal.returns-clause-few_numbered
returns-clause-few_numbered c = numbered_small
