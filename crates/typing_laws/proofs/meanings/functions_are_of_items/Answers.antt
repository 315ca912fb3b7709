use Rattle.typing_laws.proofs.SameFunctions.{functions_are_items}
use Rattle.typing_laws.proofs.meanings.functions_are_of_items.Goals as goal

pub returns : goal.returns
returns c = functions_are_items
