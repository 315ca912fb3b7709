use Rattle.std.proofs.Common.{arith}
use Rattle.cl_rows.specs.Marks.{number}
use Rattle.cl_rows.proofs.Marked.{no_call, next_marked, all_marked}
use Rattle.cl_rows.proofs.marks.callers.Goals as goal

pub loop-call-preserved : goal.loop-call-preserved
loop-call-preserved c =
    next_marked (number c.args.levels.now) c.args.crossings.now c.loop-call.call-index no_call 131072 c.number_of.result c.loop-call.marks.items _ (omega arith)
    c.number_of.ensures.small c.number_of.ensures.number c.mark.ensures c.loop-call.invariant

pub returns : goal.returns
returns c = all_marked (number c.args.levels.now) c.args.crossings.now c.loop-call.call-index 131072 c.loop-call.marks.items (omega arith) c.loop-call.invariant
