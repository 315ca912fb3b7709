use Rattle.std.proofs.Common.{◌++◌, ap, ◌∙◌, arith}
use Rattle.std.specs.List.{flat_map}
use Rattle.cl_groups.specs.Ties.{use_edges, use_seeds}
use Rattle.cl_levels.proofs.Steps.{joined, next_body, no_body_left, all_found}
use Rattle.cl_groups.proofs.ties.Ties.of.Goals as goal

pub loop-f-preserved : goal.loop-f-preserved
loop-f-preserved c = (
  joined c.loop-f.ties.edges.items _ _ _ _ _ (c.in_ok-add_all.ensures.edges ∙ ap (λ us. c.loop-f.ties.edges.items ++ flat_map (use_edges c.args.own.now c.loop-f.f) us) c.as_slice.ensures)
      (next_body (use_edges c.args.own.now) c.args.bodies.now c.loop-f.f c.index-bodies-f.result (omega arith) c.index-bodies-f.is) c.loop-f.invariant.0,
  joined c.loop-f.ties.seeds.items _ _ _ _ _ (c.in_ok-add_all.ensures.seeds ∙ ap (λ us. c.loop-f.ties.seeds.items ++ flat_map (use_seeds c.args.own.now c.loop-f.f) us) c.as_slice.ensures)
      (next_body (use_seeds c.args.own.now) c.args.bodies.now c.loop-f.f c.index-bodies-f.result (omega arith) c.index-bodies-f.is) c.loop-f.invariant.1,
)

pub returns-clause-edges : goal.returns-clause-edges
returns-clause-edges c =
    all_found _ _ _ (no_body_left (use_edges c.args.own.now) c.args.bodies.now c.loop-f.f c.loop-f.f (omega arith)) c.loop-f.invariant.0

pub returns-clause-seeds : goal.returns-clause-seeds
returns-clause-seeds c =
    all_found _ _ _ (no_body_left (use_seeds c.args.own.now) c.args.bodies.now c.loop-f.f c.loop-f.f (omega arith)) c.loop-f.invariant.1
