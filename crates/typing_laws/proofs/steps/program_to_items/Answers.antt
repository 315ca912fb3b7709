use Rattle.typing_laws.proofs.Programs.{items_known_all, items_right_all}
use Rattle.typing_laws.proofs.steps.program_to_items.Goals as goal

pub returns-clause-names : goal.returns-clause-names
returns-clause-names c = items_known_all

pub returns-clause-types : goal.returns-clause-types
returns-clause-types c = items_right_all
