use Rattle.std.proofs.Common.{sym, arith}
use Rattle.cle_share.specs.Bearings.{flag_at}
use Rattle.cl_regions.proofs.Steps.{handed}
use Rattle.cle_share.proofs.Looks.{holds, fails, ends}
use Rattle.cle_share.proofs.share.look.Goals as goal

pub returns-in_err-unless : goal.returns-in_err-unless
returns-in_err-unless c =
    handed c.from_residual.result _ _ c.from_residual.ensures.1
    (fails c.args.labels.now (flag_at c.args.lending.now) c.loop-k.k c.index-labels-k.result c.is_shared.result c.in_err-unless.field-0.0 _ (omega arith) c.index-labels-k.is
    (rw (sym c.flag_at.ensures) c.is_shared.ensures) c.in_err-unless.ensures c.loop-k.invariant)

pub loop-k-preserved : goal.loop-k-preserved
loop-k-preserved c =
    holds c.args.labels.now (flag_at c.args.lending.now) c.loop-k.k c.index-labels-k.result c.is_shared.result _ (omega arith) c.index-labels-k.is
    (rw (sym c.flag_at.ensures) c.is_shared.ensures) c.in_ok-unless.ensures c.loop-k.invariant

pub returns : goal.returns
returns c = ends c.args.labels.now (flag_at c.args.lending.now) c.loop-k.k _ (omega arith) c.loop-k.invariant
