use Rattle.std.proofs.Common.{slice_index_or, refl, arith}
use Rattle.cl_rows.proofs.Marked.{no_call, next_marked, all_marked}
use Rattle.cl_rows.proofs.marks.called.Goals as goal

pub loop-call-preserved : goal.loop-call-preserved
loop-call-preserved c =
    next_marked (λ d. d.callee) c.args.crossings.now c.loop-call.call-index no_call 4096 _ c.loop-call.marks.items _ (omega arith)
    (c.requires.callees c.loop-call.call-index no_call (omega arith)) refl c.mark.ensures c.loop-call.invariant

pub returns : goal.returns
returns c = all_marked (λ d. d.callee) c.args.crossings.now c.loop-call.call-index 4096 c.loop-call.marks.items (omega arith) c.loop-call.invariant
