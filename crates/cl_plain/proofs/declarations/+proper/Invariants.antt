use Rattle.std.proofs.Common.{◌≡◌, map, drop}
use Rattle.cl_tree.specs.Statements.{init_shape, all_inits}
use Rattle.cl_plain.proofs.declarations.+proper.Given as goal

abbrev pub invariant-all_inits-loop-init : goal.invariant-all_inits-loop-init
invariant-all_inits-loop-init l = all_inits (map init_shape (drop l.init-index l.all)) ≡ all_inits (map init_shape l.all)
