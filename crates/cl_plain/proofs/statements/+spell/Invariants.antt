use Rattle.std.proofs.Common.{◌≡◌, ◌++◌, map, take}
use Rattle.std.specs.List.{flat_map}
use Rattle.cl_tree.specs.Statements.{stmt_shape}
use Rattle.cl_plain.specs.Wanting.{written}
use Rattle.cl_plain.proofs.statements.+spell.Given as goal

abbrev pub invariant-write_statements-loop-s : goal.invariant-write_statements-loop-s
invariant-write_statements-loop-s l = written l.out ≡ written l.initial.out ++ flat_map (λ t. t) (map (λ s. s.spelling) (map stmt_shape (take l.s-index l.all)))
