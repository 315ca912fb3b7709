-- What `split_once` answers is the cut.
use Rattle.cl_words.proofs.Cut.{split_halves}
use Rattle.cl_words.proofs.settings.cut.Goals as goal

pub returns : goal.returns
returns c = split_halves _ _ c.split_once.ensures.cases
