use Rattle.std.proofs.Common.{◌≡◌, drop}
use Rattle.cl_typing.specs.Wrong.{members_wrong}
use Rattle.cl_wrong.proofs.inits.look_members.Given as goal

abbrev pub invariant-loop-m : goal.invariant-loop-m
invariant-loop-m l = members_wrong (drop l.m-index l.members) ≡ members_wrong l.members
