use Rattle.typing_laws.proofs.Limited.{all_structs, all_defs, all_functions, all_objects}
use Rattle.typing_laws.proofs.sizes.counts_are_within.Goals as goal

pub returns-clause-structs : goal.returns-clause-structs
returns-clause-structs c = all_structs

pub returns-clause-definitions : goal.returns-clause-definitions
returns-clause-definitions c = all_defs

pub returns-clause-functions : goal.returns-clause-functions
returns-clause-functions c = all_functions

pub returns-clause-objects : goal.returns-clause-objects
returns-clause-objects c = all_objects
