use Rattle.mean_laws.proofs.Reading.{read_back}
use Rattle.mean_laws.proofs.frames.read_back.Goals as goal

pub returns : goal.returns
returns c = read_back
