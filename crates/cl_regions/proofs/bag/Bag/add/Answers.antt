use Rattle.std.proofs.Common.{arith}
use Rattle.cl_regions.proofs.Bags.{added, one_more}
use Rattle.cl_regions.proofs.bag.Bag.add.Goals as goal

pub returns : goal.returns
returns c = λ ws h l. added c.args.self.now _ ws c.args.name.now c.saturating_add-count.result h
    (one_more c.args.self.now ws c.args.name.now c.count.result c.saturating_add-count.result h c.count.ensures
    c.saturating_add-count.ensures l)
    c.in_ok-put.ensures.each (omega arith)
