use Rattle.std.proofs.Common.{◌++◌, ap, ◌∙◌, arith}
use Rattle.std.specs.List.{flat_map}
use Rattle.cl_levels.proofs.Steps.{joined, next_body, no_body_left, all_found}
use Rattle.cl_loans.specs.Naming.{back, laid}
use Rattle.cl_loans.proofs.naming.Naming.of.Goals as goal

pub loop-f-preserved : goal.loop-f-preserved
loop-f-preserved c = (
  joined c.loop-f.naming.edges.items _ _ _ _ _ (c.in_ok-add_all.ensures.edges ∙ ap (λ us. c.loop-f.naming.edges.items ++ flat_map (back c.loop-f.f) us) c.as_slice.ensures)
      (next_body back c.args.bodies.now c.loop-f.f c.index-bodies-f.result (omega arith) c.index-bodies-f.is) c.loop-f.invariant.0,
  joined c.loop-f.naming.seeds.items _ _ _ _ _ (c.in_ok-add_all.ensures.seeds ∙ ap (λ us. c.loop-f.naming.seeds.items ++ flat_map (laid c.loop-f.f) us) c.as_slice.ensures)
      (next_body laid c.args.bodies.now c.loop-f.f c.index-bodies-f.result (omega arith) c.index-bodies-f.is) c.loop-f.invariant.1,
)

pub returns-clause-edges : goal.returns-clause-edges
returns-clause-edges c = all_found _ _ _ (no_body_left back c.args.bodies.now c.loop-f.f c.loop-f.f (omega arith)) c.loop-f.invariant.0

pub returns-clause-seeds : goal.returns-clause-seeds
returns-clause-seeds c = all_found _ _ _ (no_body_left laid c.args.bodies.now c.loop-f.f c.loop-f.f (omega arith)) c.loop-f.invariant.1
