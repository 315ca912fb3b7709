use Rattle.typing_laws.proofs.StatementNames.{stmt_names}
use Rattle.typing_laws.proofs.StatementTypes.{right_names}
use Rattle.typing_laws.proofs.steps.statements_declare_alike.Goals as goal

pub returns-clause-names : goal.returns-clause-names
returns-clause-names c = stmt_names

pub returns-clause-types : goal.returns-clause-types
returns-clause-types c = right_names
