use Rattle.std.proofs.Common.{take}
use Rattle.cl_rows.specs.Marks.{MarksBefore, number}
use Rattle.cl_rows.proofs.marks.called.Given as goal

abbrev pub invariant-loop-call : goal.invariant-loop-call
invariant-loop-call l = MarksBefore (λ c. c.callee) (take l.call-index l.crossings) 4096 l.marks.items
