use Rattle.std.proofs.Common.{◌≡◌, ◌≤◌, ◌+◌, drop}
use Rattle.cl_typing.specs.Sizes.{size_of_members}
use Rattle.cl_large.specs.Capped.{most, capped}
use Rattle.cl_large.proofs.sizes.Sizes.of_members.Given as goal

abbrev pub invariant-loop-m : goal.invariant-loop-m
invariant-loop-m l = record {
  rest : capped (l.total + size_of_members l.self (drop l.m-index l.members))
      ≡ capped (size_of_members l.self l.members);
  small : l.total ≤ most;
}
