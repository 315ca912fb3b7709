use Rattle.typing_laws.proofs.Expressions.{node_is}
use Rattle.typing_laws.proofs.types.types_come_from_operands.Goals as goal

pub returns : goal.returns
returns c = node_is
