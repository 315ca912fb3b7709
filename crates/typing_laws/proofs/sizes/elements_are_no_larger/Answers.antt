use Rattle.typing_laws.proofs.Counted.{element_no_larger}
use Rattle.typing_laws.proofs.sizes.elements_are_no_larger.Goals as goal

pub returns : goal.returns
returns c = element_no_larger
