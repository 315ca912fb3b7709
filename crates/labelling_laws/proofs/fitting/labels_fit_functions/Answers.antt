use Rattle.labelling_laws.proofs.Functions.{functions_fit}
use Rattle.labelling_laws.proofs.fitting.labels_fit_functions.Goals as goal

pub returns : goal.returns
returns c = functions_fit
