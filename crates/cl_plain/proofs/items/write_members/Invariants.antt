use Rattle.std.proofs.Common.{◌≡◌, ◌++◌, take}
use Rattle.cl_plain.specs.Wanting.{written}
use Rattle.std.specs.List.{flat_map}
use Rattle.cl_tree.specs.Items.{member}
use Rattle.cl_plain.proofs.items.write_members.Given as goal

abbrev pub invariant-loop-d : goal.invariant-loop-d
invariant-loop-d l = written l.out ≡ written l.initial.out ++ flat_map member (take l.d-index l.members)
