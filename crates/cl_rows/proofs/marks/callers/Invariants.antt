use Rattle.std.proofs.Common.{take}
use Rattle.cl_rows.specs.Marks.{MarksBefore, number}
use Rattle.cl_rows.proofs.marks.callers.Given as goal

abbrev pub invariant-loop-call : goal.invariant-loop-call
invariant-loop-call l = MarksBefore (number l.levels) (take l.call-index l.crossings) 131072 l.marks.items
