use Rattle.typing_laws.proofs.Accepted.{checked_structs, local_match, function_match}
use Rattle.typing_laws.proofs.SameFunctions.{functions_match}
use Rattle.typing_laws.proofs.SameVariables.{globals_match}
use Rattle.typing_laws.proofs.meanings.names_mean_the_same.Goals as goal

pub returns-clause-structs : goal.returns-clause-structs
returns-clause-structs c = checked_structs

pub returns-clause-functions : goal.returns-clause-functions
returns-clause-functions c = functions_match

pub returns-clause-variables : goal.returns-clause-variables
returns-clause-variables c = globals_match

pub returns-clause-behind_local : goal.returns-clause-behind_local
returns-clause-behind_local c = local_match

pub returns-clause-behind_function : goal.returns-clause-behind_function
returns-clause-behind_function c = function_match
