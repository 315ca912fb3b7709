use Rattle.std.proofs.Common.{◌≡◌, drop}
use Rattle.cl_mean.specs.Judging.{patched}
use Rattle.cl_mean.proofs.law.put_patches.Given as goal

abbrev pub invariant-loop-patch : goal.invariant-loop-patch
invariant-loop-patch l = patched (λ n. n) (drop l.patch-index l.patches) l.values ≡ patched (λ n. n) l.patches l.initial.values
