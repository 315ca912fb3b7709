use Rattle.std.proofs.Common.{refl}
use Rattle.cl_run.specs.FormMeaning.{main_context}
use Rattle.cl_run.proofs.Levels.{near_call}
use Rattle.cl_run.proofs.near.NearWorld.call.Goals as goal

pub returns-in-Some-clause-step : goal.returns-in-Some-clause-step
returns-in-Some-clause-step c =
    let call = near_call c.args.self.now.checked.now _ c.args.line (main_context c.args.self.now.checked.now) c.args.name.now c.requires.fits.functions in
    let row = rw c.as_slice-rows.ensures at c.in-Some.ensures.row in
    rw (call, row) c.guarded.ensures.step

pub returns-in-None-clause-step : goal.returns-in-None-clause-step
returns-in-None-clause-step c =
    let call = near_call c.args.self.now.checked.now _ c.args.line (main_context c.args.self.now.checked.now) c.args.name.now c.requires.fits.functions in
    let row = rw c.as_slice-rows.ensures at c.in-None.ensures.row in
    rw (call, row) refl
