use Rattle.std.proofs.Common.{take}
use Rattle.cle_flow.specs.Judged.{OneExceeds}
use Rattle.cle_flow.proofs.bounds.one_exceeds.Given as goal

abbrev pub invariant-loop-origin : goal.invariant-loop-origin
invariant-loop-origin l = OneExceeds l.judge.program l.admitted (take l.origin-index l.origins) → ⊥
