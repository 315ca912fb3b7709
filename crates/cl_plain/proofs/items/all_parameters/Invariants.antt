use Rattle.std.proofs.Common.{◌≡◌, drop}
use Rattle.cl_tree.specs.Items.{all_parameters}
use Rattle.cl_plain.proofs.items.all_parameters.Given as goal

abbrev pub invariant-loop-d : goal.invariant-loop-d
invariant-loop-d l = all_parameters (drop l.d-index l.params) ≡ all_parameters l.params
