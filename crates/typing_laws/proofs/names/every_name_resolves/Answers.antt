use Rattle.typing_laws.proofs.Programs.{every_name_resolves}
use Rattle.typing_laws.proofs.names.every_name_resolves.Goals as goal

pub returns : goal.returns
returns c = every_name_resolves
