use Rattle.cl_plain.proofs.Cuts.{body_ends, structure_ends}
use Rattle.cl_plain.proofs.examples.item_ends.Goals as goal

pub returns-clause-body : goal.returns-clause-body
returns-clause-body c = body_ends

pub returns-clause-structure : goal.returns-clause-structure
returns-clause-structure c = structure_ends
