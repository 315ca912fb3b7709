use Rattle.std.proofs.Common.{take}
use Rattle.cl_groups.specs.Marks.{IsLeast}
use Rattle.cle_flow.specs.Judged.{Broken}
use Rattle.cle_flow.proofs.first.least_line.Given as goal

abbrev pub invariant-loop-note : goal.invariant-loop-note
invariant-loop-note l = IsLeast (Broken l.judge.program l.rule (take l.note-index l.notes)) l.least
