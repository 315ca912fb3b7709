use Rattle.std.proofs.Common.{sym, ◌∙◌, arith}
use Rattle.cl_regions.proofs.Steps.{handed}
use Rattle.cl_levels.proofs.Steps.{next, none_left, passed, ended}
use Rattle.cl_groups.specs.Foreign.{foreign_by}
use Rattle.cl_groups.proofs.foreign.look_in.Goals as goal

pub returns-in_err-look_at : goal.returns-in_err-look_at
returns-in_err-look_at c =
    handed c.from_residual.result _ _ c.from_residual.ensures.1
    (ended c.in_err-look_at.field-0.0 _ _ _ _ c.in_err-look_at.ensures
    (next (foreign_by c.args.own.now c.args.f) c.args.uses.now c.loop-used.used-index c.used-item.result (omega arith) c.used-item.is) c.loop-used.invariant)

pub loop-used-preserved : goal.loop-used-preserved
loop-used-preserved c =
    passed _ _ _ _ c.in_ok-look_at.ensures
    (next (foreign_by c.args.own.now c.args.f) c.args.uses.now c.loop-used.used-index c.used-item.result (omega arith) c.used-item.is) c.loop-used.invariant

pub returns : goal.returns
returns c = sym c.loop-used.invariant ∙ none_left (foreign_by c.args.own.now c.args.f) c.args.uses.now c.loop-used.used-index (omega arith)
