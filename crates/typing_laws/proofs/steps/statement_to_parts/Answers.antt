use Rattle.typing_laws.proofs.StatementNames.{part_known, evaluates_known}
use Rattle.typing_laws.proofs.StatementTypes.{part_right}
use Rattle.typing_laws.proofs.Evaluated.{right_type}
use Rattle.typing_laws.proofs.steps.statement_to_parts.Goals as goal

pub returns-clause-names : goal.returns-clause-names
returns-clause-names c = part_known

pub returns-clause-types : goal.returns-clause-types
returns-clause-types c = part_right

pub returns-clause-evaluated_names : goal.returns-clause-evaluated_names
returns-clause-evaluated_names c = evaluates_known

pub returns-clause-evaluated_types : goal.returns-clause-evaluated_types
returns-clause-evaluated_types c = right_type
