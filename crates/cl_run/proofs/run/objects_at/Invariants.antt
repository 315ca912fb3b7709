use Rattle.std.proofs.Common.{◌≡◌, ◌++◌, drop}
use Rattle.cl_run.specs.FormMeaning.{objects_at}
use Rattle.cl_run.proofs.run.objects_at.Given as goal

abbrev pub invariant-loop-place : goal.invariant-loop-place
invariant-loop-place l = l.objects ++ objects_at (drop l.place l.facts) (drop l.place l.levels) ≡ objects_at l.facts l.levels
