use Rattle.std.proofs.Common.{take}
use Rattle.std.specs.List.{flat_map}
use Rattle.cl_groups.specs.Marks.{IsLeast}
use Rattle.cle_flow.specs.Judged.{Broken}
use Rattle.cle_flow.proofs.first.least_in_bodies.Given as goal

abbrev pub invariant-loop-function : goal.invariant-loop-function
invariant-loop-function l = IsLeast (Broken l.judge.program l.rule (flat_map (λ b. b.notes) (take l.function-index l.functions))) l.least
