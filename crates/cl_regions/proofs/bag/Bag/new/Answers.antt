use Rattle.std.proofs.Common.{refl, rules}
use Rattle.cl_regions.specs.Bag.{occurs}
use Rattle.cl_regions.proofs.bag.Bag.new.Goals as goal

pub returns : goal.returns
unfolding occurs
returns c = record { each = λ q. search rules; total = refl }
