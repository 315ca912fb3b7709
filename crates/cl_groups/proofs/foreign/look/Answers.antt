use Rattle.std.proofs.Common.{Err, sym, ap, subst, ◌∙◌, arith}
use Rattle.std.specs.List.{flat_map}
use Rattle.cl_regions.proofs.Steps.{handed}
use Rattle.cl_levels.proofs.Steps.{next_body, no_body_left, passed, ended}
use Rattle.cl_scope.specs.Finds.{Finds}
use Rattle.cl_groups.specs.Foreign.{foreign_by}
use Rattle.cl_groups.proofs.foreign.look.Goals as goal

pub returns-in_err-look_in : goal.returns-in_err-look_in
returns-in_err-look_in c =
    handed c.from_residual.result _ _ c.from_residual.ensures.1
    (ended c.in_err-look_in.field-0.0 _ _ _ _
    (subst (λ us. Finds (Err c.in_err-look_in.field-0.0) (flat_map (foreign_by c.args.own.now c.loop-f.f) us)) c.as_slice.ensures c.in_err-look_in.ensures)
    (next_body (foreign_by c.args.own.now) c.args.bodies.now c.loop-f.f c.index-bodies-f.result (omega arith) c.index-bodies-f.is) c.loop-f.invariant)

pub loop-f-preserved : goal.loop-f-preserved
loop-f-preserved c =
    passed _ _ _ _ (ap (flat_map (foreign_by c.args.own.now c.loop-f.f)) (sym c.as_slice.ensures) ∙ c.in_ok-look_in.ensures)
    (next_body (foreign_by c.args.own.now) c.args.bodies.now c.loop-f.f c.index-bodies-f.result (omega arith) c.index-bodies-f.is) c.loop-f.invariant

pub returns : goal.returns
returns c = sym c.loop-f.invariant ∙ no_body_left (foreign_by c.args.own.now) c.args.bodies.now c.loop-f.f c.loop-f.f (omega arith)
