use Rattle.std.proofs.Common.{◌↔◌, IsTrue, subst, sym}
use Rattle.cle_ways.specs.declared.ways.Origin.{Origin}
use Rattle.cle_flow.specs.Judged.{OriginExceeds}
use Rattle.cle_flow.proofs.Exceeding.{all_exceed}
use Rattle.cle_flow.proofs.bounds.origin_exceeds.Goals as goal

pub returns-in-AllOf : goal.returns-in-AllOf
returns-in-AllOf c = subst (λ (o : Origin). IsTrue c.one_refused.result ↔ OriginExceeds c.args.judge.now.program c.args.admitted o) (sym c.in-AllOf.is)
    (all_exceed c.args.judge.now c.requires c.args.admitted c.in-AllOf.x c.labels.result.now c.one_refused.result c.labels.ensures c.one_refused.ensures)
