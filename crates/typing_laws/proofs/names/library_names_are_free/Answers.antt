use Rattle.typing_laws.proofs.Programs.{library_free}
use Rattle.typing_laws.proofs.names.library_names_are_free.Goals as goal

pub returns : goal.returns
returns c = library_free
