use Rattle.std.proofs.Common.{refl, sym, ap, subst, ◌∙◌}
use Rattle.cl_groups.specs.Foreign.{function_lines}
use Rattle.cl_groups.specs.Grounds.{FirstOf}
use Rattle.cl_levels.specs.Levels.{two_levels}
use Rattle.cl_split.specs.Answer.{annotated}
use Rattle.cl_split.proofs.Steps.{groups_are}
use Rattle.cl_split.proofs.grounds.Grounds.look_groups.Goals as goal

pub returns-in-Some : goal.returns-in-Some
returns-in-Some c = (
  refl,
  subst (λ o. FirstOf o (two_levels (annotated c.args.self.now.typed.now c.args.self.now.labels.now))) (sym c.lesser.ensures ∙ c.in-Some.is)
      (groups_are (annotated c.args.self.now.typed.now c.args.self.now.labels.now) c.args.self.now.own c.args.self.now.uses.functions c.args.self.now.uses.lines c.args.self.now.carried c.requires
      c.as_slice-2.result.now c.as_slice-4.result.now c.as_slice-3.result.now c.as_slice-5.result.now c.first_conflict-of_functions.result c.first_conflict-of_objects.result
      c.as_slice-2.ensures (c.as_slice-3.ensures.value ∙ c.in_ok-lines.ensures ∙ ap (λ is. function_lines is c.as_slice-functions.result.now) c.as_slice.ensures ∙ ap (λ fs. function_lines c.args.self.now.typed.now.program.items fs) c.as_slice-functions.ensures)
      c.as_slice-4.ensures c.as_slice-5.ensures c.first_conflict-of_functions.ensures c.first_conflict-of_objects.ensures),
)

pub returns : goal.returns
returns c =
    subst (λ o. FirstOf o (two_levels (annotated c.args.self.now.typed.now c.args.self.now.labels.now))) (sym c.lesser.ensures ∙ c.in-None.is)
    (groups_are (annotated c.args.self.now.typed.now c.args.self.now.labels.now) c.args.self.now.own c.args.self.now.uses.functions c.args.self.now.uses.lines c.args.self.now.carried c.requires
    c.as_slice-2.result.now c.as_slice-4.result.now c.as_slice-3.result.now c.as_slice-5.result.now c.first_conflict-of_functions.result c.first_conflict-of_objects.result
    c.as_slice-2.ensures (c.as_slice-3.ensures.value ∙ c.in_ok-lines.ensures ∙ ap (λ is. function_lines is c.as_slice-functions.result.now) c.as_slice.ensures ∙ ap (λ fs. function_lines c.args.self.now.typed.now.program.items fs) c.as_slice-functions.ensures)
    c.as_slice-4.ensures c.as_slice-5.ensures c.first_conflict-of_functions.ensures c.first_conflict-of_objects.ensures)
