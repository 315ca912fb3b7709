use Rattle.std.proofs.Common.{◌≡◌, ◌++◌, map, take}
use Rattle.std.specs.List.{flat_map}
use Rattle.cl_tree.specs.declared.token.Mark.TheVariants.{Comma}
use Rattle.cl_tree.specs.Spelling.{shape, put_mark}
use Rattle.cl_plain.specs.Wanting.{written}
use Rattle.cl_plain.proofs.expressions.+spell.Given as goal

abbrev pub invariant-write_arguments-loop-e : goal.invariant-write_arguments-loop-e
invariant-write_arguments-loop-e l = written l.out ≡ written l.initial.out ++ flat_map (put_mark Comma) (map (λ s. s.spelling) (map shape (take l.e-index l.rest)))
