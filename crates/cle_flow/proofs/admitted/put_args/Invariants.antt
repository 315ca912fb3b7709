use Rattle.std.proofs.Common.{◌≡◌, ◌++◌, drop}
use Rattle.cle_flow.specs.Admissions.{args_admit}
use Rattle.cle_flow.proofs.admitted.put_args.Given as goal

abbrev pub invariant-loop-mentions : goal.invariant-loop-mentions
invariant-loop-mentions l = l.notes.items ++ args_admit l.f (drop l.mentions-index l.args) ≡ l.initial.notes.items ++ args_admit l.f l.args
