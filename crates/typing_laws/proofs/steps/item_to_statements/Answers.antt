use Rattle.typing_laws.proofs.Items.{body_known, body_right}
use Rattle.typing_laws.proofs.steps.item_to_statements.Goals as goal

pub returns-clause-names : goal.returns-clause-names
returns-clause-names c = body_known

pub returns-clause-types : goal.returns-clause-types
returns-clause-types c = body_right
