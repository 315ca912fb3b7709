use Rattle.std.proofs.Common.{◌≡◌, ◌++◌, drop}
use Rattle.cl_typing.specs.Scope.{fields_of}
use Rattle.cl_members.proofs.fields.Fields.push_all.Given as goal

abbrev pub invariant-loop-d : goal.invariant-loop-d
invariant-loop-d l = l.self ++ fields_of (drop l.d-index l.ds) ≡ l.initial.self ++ fields_of l.ds
