use Rattle.std.proofs.Common.{◌≡◌, ◌++◌, drop}
use Rattle.cl_typing.specs.Scope.{fields_of, declarators}
use Rattle.cl_members.proofs.fields.Fields.of.Given as goal

abbrev pub invariant-loop-m : goal.invariant-loop-m
invariant-loop-m l = l.fields ++ fields_of (declarators (drop l.m-index l.members)) ≡ fields_of (declarators l.members)
