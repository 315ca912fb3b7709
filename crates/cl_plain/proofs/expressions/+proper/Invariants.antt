use Rattle.std.proofs.Common.{◌≡◌, map, drop}
use Rattle.cl_tree.specs.Spelling.{shape, all_proper}
use Rattle.cl_plain.proofs.expressions.+proper.Given as goal

abbrev pub invariant-all_proper-loop-e : goal.invariant-all_proper-loop-e
invariant-all_proper-loop-e l = all_proper (map shape (drop l.e-index l.all)) ≡ all_proper (map shape l.all)
