use Rattle.std.proofs.Common.{refl}
use Rattle.cl_regions.proofs.marks.Around.new.Goals as goal

pub returns : goal.returns
returns c = record { holds = c.new.ensures; waits = refl }
