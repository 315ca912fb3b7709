use Rattle.mean_laws.proofs.Reading.{reads_its_bytes}
use Rattle.mean_laws.proofs.frames.reads_its_bytes.Goals as goal

pub returns : goal.returns
returns c = reads_its_bytes
