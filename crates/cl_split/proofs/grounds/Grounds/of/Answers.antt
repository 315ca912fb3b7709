use Rattle.std.proofs.Common.{◌≡◌, ◌≤◌, ◌↔◌, ℕ, All, map, length, sym, ap, subst, ◌∙◌}
use Rattle.cl_reach.specs.Reach.{Bears, Carries}
use Rattle.cl_levels.specs.Levels.{object_lines}
use Rattle.cl_groups.specs.Ties.{IsBelow, seeds_of, edges_of}
use Rattle.cl_split.proofs.Given.{are_own}
use Rattle.cl_split.proofs.Laws.{few_functions, few_objects, lines_counted, few_bodies, bodies_below}
use Rattle.cl_split.proofs.grounds.Grounds.of.Goals as goal

pub carried-requires-clause-few : goal.carried-requires-clause-few
carried-requires-clause-few c =
    subst (λ bs. length bs ≤ 4096) (sym c.as_slice.ensures) (few_bodies c.args.typed.now c.requires.typed c.in_ok-uses.uses.functions c.in_ok-uses.ensures.functions)

pub carried-requires-clause-uses : goal.carried-requires-clause-uses
carried-requires-clause-uses c =
    subst (λ bs. All (λ b. All IsBelow b.uses) bs) (sym c.as_slice.ensures) (bodies_below c.args.typed.now c.requires.typed c.in_ok-uses.uses.functions c.in_ok-uses.ensures.functions)

pub carried-requires-clause-levels : goal.carried-requires-clause-levels
carried-requires-clause-levels c =
    (are_own c.args.typed.now c.args.labels.now c.requires.labels c.in_ok-own.own c.in_ok-own.ensures.functions c.in_ok-own.ensures.objects).below

pub returns-clause-grounds : goal.returns-clause-grounds
returns-clause-grounds c = record {
  are_own = are_own c.args.typed.now c.args.labels.now c.requires.labels c.in_ok-own.own c.in_ok-own.ensures.functions c.in_ok-own.ensures.objects;
  uses_are = c.in_ok-uses.ensures.functions;
  lines_are = c.in_ok-uses.ensures.lines;
  bears = subst (λ uss. (level node : ℕ) → Bears c.in_ok-carried.carried level node ↔ Carries (seeds_of c.in_ok-own.own 0 uss) (edges_of c.in_ok-own.own 0 uss) level node)
      (ap (map (λ b. b.uses)) c.as_slice.ensures ∙ c.in_ok-uses.ensures.functions) c.in_ok-carried.ensures;
  few_functions = few_functions c.args.typed.now c.requires.typed;
  few_objects = few_objects c.args.typed.now c.requires.typed;
  all_objects = ap length c.in_ok-uses.ensures.lines ∙ lines_counted c.args.typed.now c.requires.typed;
}
