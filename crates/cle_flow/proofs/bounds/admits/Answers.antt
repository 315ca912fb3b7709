use Rattle.std.proofs.Common.{◌↔◌, IsTrue, subst, sym}
use Rattle.cle_ways.specs.declared.ways.Admitted.{Admitted}
use Rattle.cle_ways.specs.Flow.{Admits}
use Rattle.cle_flow.proofs.Exceeding.{argument_by, body_by}
use Rattle.cle_flow.proofs.bounds.admits.Goals as goal

pub returns-in-Argument : goal.returns-in-Argument
returns-in-Argument c = subst (λ (a : Admitted). IsTrue c.has.result ↔ Admits c.args.judge.now.program a c.args.m) (sym c.in-Argument.is)
    (argument_by c.args.judge.now c.requires c.in-Argument.f c.in-Argument.k c.args.m c.has.result c.has.ensures)

pub returns-in-Body : goal.returns-in-Body
returns-in-Body c = subst (λ (a : Admitted). IsTrue c.has-in-Body.result ↔ Admits c.args.judge.now.program a c.args.m) (sym c.in-Body.is)
    (body_by c.args.judge.now c.requires c.in-Body.f c.args.m c.has-in-Body.result c.has-in-Body.ensures)
