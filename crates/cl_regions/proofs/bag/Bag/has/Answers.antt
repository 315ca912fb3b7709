use Rattle.std.proofs.Common.{ap, ◌∙◌, nat_lt}
use Rattle.cl_regions.proofs.Bags.{has_is}
use Rattle.cl_regions.proofs.bag.Bag.has.Goals as goal

pub returns : goal.returns
returns c = λ ws h. ap (nat_lt 0) c.count.ensures ∙ has_is c.args.self.now ws c.args.name.now h
