use Rattle.labelling_laws.proofs.Functions.{objects_fit}
use Rattle.labelling_laws.proofs.fitting.labels_fit_objects.Goals as goal

pub returns : goal.returns
returns c = objects_fit
