use Rattle.std.proofs.Common.{◌≡◌, ◌++◌, map, take}
use Rattle.cl_mean.specs.Judging.{patch_with}
use Rattle.guard_rules.proofs.redact.push_patches.Given as goal

abbrev pub invariant-loop-place : goal.invariant-loop-place
invariant-loop-place l = l.patches ≡ l.initial.patches ++ map (λ p. patch_with l.with p.at) (take l.place-index l.places)
