use Rattle.typing_laws.proofs.Further.{item_evaluates, statement_evaluates, operand_stands}
use Rattle.typing_laws.proofs.places.expressions_stand.Goals as goal

pub returns-clause-of_items : goal.returns-clause-of_items
returns-clause-of_items c = item_evaluates

pub returns-clause-of_statements : goal.returns-clause-of_statements
returns-clause-of_statements c = statement_evaluates

pub returns-clause-operands : goal.returns-clause-operands
returns-clause-operands c = operand_stands
