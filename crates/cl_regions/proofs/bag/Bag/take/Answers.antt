use Rattle.std.proofs.Common.{◌≡◌, ◌≤◌, ◌-◌, suc, sym, ◌∙◌, length, arith}
use Rattle.cl_regions.specs.Bag.{occurs}
use Rattle.cl_regions.proofs.Bags.{count_is, occurs_few, not_taken, taken}
use Rattle.cl_regions.proofs.bag.Bag.take.Goals as goal

pub returns-then-count-eq0 : goal.returns-then-count-eq0
returns-then-count-eq0 c = λ ws h.
    not_taken c.args.self.now ws c.args.name.now h (sym c.count-count.ensures ∙ c.if-count-eq0.true)

pub returns : goal.returns
returns c = λ ws h.
    let e : c.count-count.result ≡ occurs ws c.args.name.now =
    c.count-count.ensures ∙ count_is c.args.self.now ws c.args.name.now h in
    let l : occurs ws c.args.name.now ≤ length ws = occurs_few ws c.args.name.now in
    let k : suc (c.count-count.result - 1) ≡ occurs ws c.args.name.now = omega arith in
    taken c.args.self.now _ ws c.args.name.now (c.count-count.result - 1) h k c.leave.ensures.each (omega arith)
