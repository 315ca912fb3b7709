use Rattle.std.proofs.Common.{◌≡◌, ◌≤◌, ◌+◌, drop}
use Rattle.cl_typing.specs.Sizes.{size_of_all}
use Rattle.cl_large.specs.Capped.{most, capped}
use Rattle.cl_large.proofs.sizes.Sizes.of_all.Given as goal

abbrev pub invariant-loop-d : goal.invariant-loop-d
invariant-loop-d l = record {
  rest : capped (l.total + size_of_all l.self (drop l.d-index l.ds)) ≡ capped (size_of_all l.self l.ds);
  small : l.total ≤ most;
}
