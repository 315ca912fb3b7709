use Rattle.std.proofs.Common.{subst, sym, IsTrue}
use Rattle.std.proofs.lemmas.Bool.{false≢true}
use Rattle.cl_calls.specs.Cycles.{Closes}
use Rattle.cl_calls.proofs.Circles.{joined_now}
use Rattle.cl_calls.proofs.cycles.Pairs.close.Goals as goal

pub returns-clause-joins : goal.returns-clause-joins
returns-clause-joins c = λ _.
    joined_now c.args.self.now.edges.items c.add.new.self.edges.items c.args.pair c.requires.pairs c.requires.pair c.in_ok-add.ensures.edges
    (λ h. false≢true (subst IsTrue c.if-branch.false (c.in_ok-closes.ensures.1 (subst (λ es. Closes es c.args.pair) (sym c.as_slice.ensures.value) h))))
