use Rattle.typing_laws.proofs.Calling.{format_fits}
use Rattle.typing_laws.proofs.types.every_format_fits.Goals as goal

pub returns : goal.returns
returns c = format_fits
