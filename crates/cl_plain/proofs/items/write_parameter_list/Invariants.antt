use Rattle.std.proofs.Common.{◌≡◌, ◌++◌, map, take}
use Rattle.cl_plain.specs.Wanting.{written}
use Rattle.std.specs.List.{flat_map}
use Rattle.cl_tree.specs.declared.token.Mark.TheVariants.{Comma}
use Rattle.cl_tree.specs.Spelling.{put_mark}
use Rattle.cl_tree.specs.Items.{parameter}
use Rattle.cl_plain.proofs.items.write_parameter_list.Given as goal

abbrev pub invariant-loop-d : goal.invariant-loop-d
invariant-loop-d l = written l.out ≡ written l.initial.out ++ flat_map (put_mark Comma) (map parameter (take l.d-index l.rest))
