use Rattle.std.proofs.Common.{◌++◌, ap, ◌∙◌, arith}
use Rattle.std.specs.List.{flat_map}
use Rattle.cl_levels.specs.Crossings.{call_in}
use Rattle.cl_levels.proofs.Steps.{joined, next_body, no_body_left, all_found}
use Rattle.cl_calls.proofs.calls.calls.Goals as goal

pub loop-f-preserved : goal.loop-f-preserved
loop-f-preserved c =
    joined c.loop-f.calls.items _ _ _ _ _ (c.in_ok-add_all.ensures ∙ ap (λ us. c.loop-f.calls.items ++ flat_map (call_in c.loop-f.f) us) c.as_slice.ensures)
    (next_body call_in c.args.bodies.now c.loop-f.f c.index-bodies-f.result (omega arith) c.index-bodies-f.is) c.loop-f.invariant

pub returns : goal.returns
returns c = all_found _ _ _ (no_body_left call_in c.args.bodies.now c.loop-f.f c.loop-f.f (omega arith)) c.loop-f.invariant
