use Rattle.std.proofs.Common.{◌++◌, ap, ◌∙◌, arith, filter}
use Rattle.cl_levels.proofs.Steps.{joined, all_found}
use Rattle.cl_calls.specs.Calls.{crosses}
use Rattle.cl_calls.proofs.Filtered.{next_kept, none_kept}
use Rattle.cl_calls.proofs.calls.crossings.Goals as goal

pub loop-call-preserved : goal.loop-call-preserved
loop-call-preserved c =
    joined c.loop-call.crossings.items _ _ _ _ _ c.in_ok-keep.ensures
    (next_kept c.args.levels.now c.args.calls.now c.loop-call.call-index _ c.crosses.result (omega arith) c.crosses.ensures) c.loop-call.invariant

pub returns : goal.returns
returns c = all_found _ _ _ (none_kept c.args.levels.now c.args.calls.now c.loop-call.call-index (omega arith)) c.loop-call.invariant
