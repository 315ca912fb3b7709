use Rattle.typing_laws.proofs.Programs.{statements_fit}
use Rattle.typing_laws.proofs.types.every_statement_fits.Goals as goal

pub returns : goal.returns
returns c = statements_fit
