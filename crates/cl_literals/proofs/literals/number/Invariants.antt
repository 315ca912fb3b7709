use Rattle.std.proofs.Common.{◌≡◌, ◌<◌, ◌^◌, drop}
use Rattle.cl_tree.specs.Literals.{number_from, fitting}
use Rattle.cl_literals.proofs.literals.number.Given as goal

abbrev pub invariant-loop-b : goal.invariant-loop-b
invariant-loop-b l = record {
  fits : l.value < 2 ^ 64;
  same : fitting (number_from l.base l.value (drop l.b-index l.digits)) ≡ fitting (number_from l.base 0 l.digits);
}
