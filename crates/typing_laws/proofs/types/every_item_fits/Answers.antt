use Rattle.typing_laws.proofs.Programs.{items_fit}
use Rattle.typing_laws.proofs.types.every_item_fits.Goals as goal

pub returns : goal.returns
returns c = items_fit
