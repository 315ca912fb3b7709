use Rattle.cl_form.proofs.Whole.{form_one}
use Rattle.cl_form.proofs.form.one_reading.Goals as goal

pub returns : goal.returns
returns c = form_one
