use Rattle.std.proofs.Common.{◌++◌, drop, ap, ◌∙◌, arith}
use Rattle.cl_levels.proofs.Steps.{joined, all_found}
use Rattle.cl_loans.proofs.Lists.{next_root, no_root_left}
use Rattle.cl_loans.proofs.lent.lent.Goals as goal

pub loop-i-preserved : goal.loop-i-preserved
loop-i-preserved c =
    joined c.loop-i.lent.items _ _ _ _ _ c.in_ok-add.ensures
    (next_root c.args.params.now c.args.roots.now c.loop-i.i c.index-params-i.result c.is_array.result c.root_at.result (omega arith) c.index-params-i.is c.is_array.ensures c.root_at.ensures)
    c.loop-i.invariant

pub returns : goal.returns
returns c = all_found _ _ _ (no_root_left c.args.params.now (drop c.loop-i.i c.args.roots.now) c.loop-i.i (omega arith)) c.loop-i.invariant
