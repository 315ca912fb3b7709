use Rattle.typing_laws.proofs.Programs.{every_type}
use Rattle.typing_laws.proofs.types.every_expression_has_a_type.Goals as goal

pub returns : goal.returns
returns c = every_type
