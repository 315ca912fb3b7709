use Rattle.cle_fits.proofs.Noted.{fitting, noted_more}
use Rattle.cle_fits.proofs.misfits.look_at.Goals as goal

pub returns-clause-passed : goal.returns-clause-passed
returns-clause-passed c =
    noted_more c.args.program.now c.args.labels.now c.args.passed.now c.set.new.self c.args.bearing.now.function.now c.args.bearing.now.label c.requires.passed
    (fitting c.args.program.now c.args.labels.now c.args.bearing.now.function.now c.args.bearing.now.label c.args.bearing.now.line c.in_ok-fits.field-0 c.in_ok-fits.ensures c.in_ok-unless.ensures)
    c.in_ok-set.ensures.ok
