use Rattle.std.proofs.Common.{◌≡◌, drop}
use Rattle.cle_share.specs.Bearings.{bearings}
use Rattle.cle_fits.specs.Leaves.{AllFit, misfits}
use Rattle.cle_fits.proofs.misfits.look.Given as goal

abbrev pub invariant-loop-bearing : goal.invariant-loop-bearing
invariant-loop-bearing l = record {
  rest : misfits l.program l.labels (bearings (drop l.bearing-index l.all)) ≡ misfits l.program l.labels (bearings l.all);
  passed : AllFit l.program l.labels l.passed;
}
