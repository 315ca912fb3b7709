use Rattle.typing_laws.proofs.Expressions.{child_unknown, child_type}
use Rattle.typing_laws.proofs.steps.expression_to_operands.Goals as goal

pub returns-clause-names : goal.returns-clause-names
returns-clause-names c = child_unknown

pub returns-clause-types : goal.returns-clause-types
returns-clause-types c = child_type
