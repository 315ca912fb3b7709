use Rattle.std.proofs.Common.{filter, map, refl, sym, ap, ◌∙◌}
use Rattle.cl_calls.specs.Calls.{calls_in, crosses}
use Rattle.cl_calls.proofs.Filtered.{crossings_are}
use Rattle.cl_split.proofs.crossed.Crossed.of.Goals as goal

pub returns-clause-crossed : goal.returns-clause-crossed
returns-clause-crossed c = record {
  typed = c.requires.typed;
  labels = c.requires.labels;
  levels = c.requires.levels;
  uses = c.in_ok-uses.ensures.functions;
  crossings = c.in_ok-crossings.ensures ∙ ap (filter (crosses c.args.levels.now)) (c.as_slice-2.ensures.value ∙ c.in_ok-calls.ensures ∙ ap (λ bs. calls_in (map (λ b. b.uses) bs)) c.as_slice.ensures ∙ ap calls_in c.in_ok-uses.ensures.functions)
      ∙ crossings_are c.args.typed.now c.args.labels.now c.args.levels.now _ refl;
}
