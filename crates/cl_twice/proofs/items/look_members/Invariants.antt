use Rattle.std.proofs.Common.{◌≡◌, drop, []}
use Rattle.cl_typing.specs.Twice.{members_twice}
use Rattle.cl_twice.proofs.items.look_members.Given as goal

abbrev pub invariant-loop-m : goal.invariant-loop-m
invariant-loop-m l = members_twice l.fields (drop l.m-index l.members) ≡ members_twice [] l.members
