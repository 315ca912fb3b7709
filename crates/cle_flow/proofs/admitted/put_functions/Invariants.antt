use Rattle.std.proofs.Common.{◌≡◌, ◌++◌, drop}
use Rattle.cle_flow.specs.Admissions.{admissions_from}
use Rattle.cle_flow.proofs.admitted.put_functions.Given as goal

abbrev pub invariant-loop-f : goal.invariant-loop-f
invariant-loop-f l = l.notes.items ++ admissions_from l.program l.f (drop l.f l.ons) ≡ l.initial.notes.items ++ admissions_from l.program 0 l.ons
