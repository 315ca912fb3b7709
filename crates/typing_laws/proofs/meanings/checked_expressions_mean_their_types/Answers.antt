use Rattle.typing_laws.proofs.Accepted.{accepted_alike}
use Rattle.typing_laws.proofs.meanings.checked_expressions_mean_their_types.Goals as goal

pub returns : goal.returns
returns c = accepted_alike
