use Rattle.std.proofs.Common.{◌≡◌, drop}
use Rattle.cl_tree.specs.Items.{all_members}
use Rattle.cl_plain.proofs.items.all_members.Given as goal

abbrev pub invariant-loop-d : goal.invariant-loop-d
invariant-loop-d l = all_members (drop l.d-index l.members) ≡ all_members l.members
