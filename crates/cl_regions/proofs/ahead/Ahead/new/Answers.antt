use Rattle.std.proofs.Common.{refl}
use Rattle.cl_regions.proofs.Aheads.{none_noted}
use Rattle.cl_regions.proofs.ahead.Ahead.new.Goals as goal

pub returns : goal.returns
returns c = none_noted _ c.new.ensures refl c.new-2.ensures.items
