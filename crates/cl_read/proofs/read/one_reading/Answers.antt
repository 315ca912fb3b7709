use Rattle.cl_read.proofs.One as one
use Rattle.cl_read.proofs.read.one_reading.Goals as goal

pub returns : goal.returns
returns c = one.one_reading
