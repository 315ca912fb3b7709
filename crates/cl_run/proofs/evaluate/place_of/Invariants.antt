use Rattle.std.proofs.Common.{◌≡◌, ◌+◌, drop, option_map}
use Rattle.cl_run.specs.FormEvaluation.{place_of}
use Rattle.cl_run.proofs.evaluate.place_of.Given as goal

abbrev pub invariant-loop-place : goal.invariant-loop-place
invariant-loop-place l = place_of l.objects l.name ≡ option_map (λ n. l.place + n) (place_of (drop l.place l.objects) l.name)
