use Rattle.std.proofs.Common.{◌≡◌, ◌++◌, map, take}
use Rattle.std.specs.List.{flat_map}
use Rattle.cl_tree.specs.declared.token.Mark.TheVariants.{Comma}
use Rattle.cl_tree.specs.Spelling.{put_mark}
use Rattle.cl_tree.specs.Statements.{init_shape}
use Rattle.cl_plain.specs.Wanting.{written}
use Rattle.cl_plain.proofs.declarations.+spell.Given as goal

abbrev pub invariant-write_inits-loop-init : goal.invariant-write_inits-loop-init
invariant-write_inits-loop-init l = written l.out ≡ written l.initial.out ++ flat_map (put_mark Comma) (map (λ s. s.spelling) (map init_shape (take l.init-index l.rest)))
