use Rattle.std.proofs.Common.{Some, refl, arith}
use Rattle.cl_labelling.specs.Fits.{subject_fits}
use Rattle.cl_labelling.specs.Regions.{function}
use Rattle.cl_regions.proofs.Steps.{handed}
use Rattle.cle_fits.specs.Leaves.{misfit_at, misfits}
use Rattle.cle_fits.proofs.Bearing.{fails, holds, ends}
use Rattle.cle_fits.proofs.misfits.look.Goals as goal

pub returns-in_err-look_at : goal.returns-in_err-look_at
unfolding misfits
returns-in_err-look_at c =
    handed c.from_residual.result _ _ c.from_residual.ensures.1
    (fails (misfit_at c.args.program.now c.args.labels.now) c.args.all.now c.loop-bearing.bearing-index c.bearing-item.result
    (subject_fits c.args.program.now c.args.labels.now (function c.bearing-item.result.function.now) (Some c.bearing-item.result.label)) c.in_err-look_at.field-0.0 _ (omega arith) c.bearing-item.is refl c.in_err-look_at.ensures.found c.loop-bearing.invariant.rest)

pub loop-bearing-preserved : goal.loop-bearing-preserved
unfolding misfits
loop-bearing-preserved c = record {
  rest = holds (misfit_at c.args.program.now c.args.labels.now) c.args.all.now c.loop-bearing.bearing-index c.bearing-item.result _ (omega arith) c.bearing-item.is c.in_ok-look_at.ensures.found c.loop-bearing.invariant.rest;
  passed = c.in_ok-look_at.ensures.passed;
}

pub returns : goal.returns
unfolding misfits
returns c = ends (misfit_at c.args.program.now c.args.labels.now) c.args.all.now c.loop-bearing.bearing-index _ (omega arith) c.loop-bearing.invariant.rest
