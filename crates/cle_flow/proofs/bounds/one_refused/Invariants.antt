use Rattle.std.proofs.Common.{take}
use Rattle.cle_flow.specs.Judged.{OneRefused}
use Rattle.cle_flow.proofs.bounds.one_refused.Given as goal

abbrev pub invariant-loop-m : goal.invariant-loop-m
invariant-loop-m l = OneRefused l.judge.program l.admitted (take l.m-index l.labels) → ⊥
