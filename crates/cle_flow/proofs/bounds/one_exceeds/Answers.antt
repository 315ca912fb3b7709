use Rattle.cl_mean.specs.declared.labels.Mention.TheVariants.{Label}
use Rattle.cle_ways.specs.declared.ways.Origin.TheVariants.{Just}
use Rattle.cle_flow.proofs.Exceeding.{none_more, none_found}
use Rattle.cle_flow.proofs.bounds.one_exceeds.Goals as goal

pub loop-origin-preserved : goal.loop-origin-preserved
loop-origin-preserved c = none_more c.args.judge.now.program c.args.admitted c.args.origins.now c.loop-origin.origin-index (Just (Label 0)) c.origin_exceeds.result
    c.loop-origin-test.true c.if-origin_exceeds.false c.origin_exceeds.ensures c.loop-origin.invariant

pub returns : goal.returns
returns c = none_found c.args.judge.now.program c.args.admitted c.args.origins.now c.loop-origin.origin-index c.loop-origin-test.false c.loop-origin.invariant
