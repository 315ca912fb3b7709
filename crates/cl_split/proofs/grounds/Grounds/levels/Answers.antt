use Rattle.std.proofs.Common.{length, ap, subst, ◌∙◌}
use Rattle.cl_groups.specs.Marks.{AllStand}
use Rattle.cl_split.specs.Answer.{annotated}
use Rattle.cl_split.proofs.Steps.{functions_are, objects_are}
use Rattle.cl_split.proofs.grounds.Grounds.levels.Goals as goal

pub returns : goal.returns
returns c = record {
  functions = c.in_ok-of_functions.ensures.count ∙ ap length c.as_slice-functions.ensures;
  of_functions = functions_are (annotated c.args.self.now.typed.now c.args.self.now.labels.now) c.args.self.now.own c.args.self.now.uses.functions c.args.self.now.uses.lines c.args.self.now.carried c.requires.grounds c.main_level-main.result c.in_ok-of_functions.of_functions c.main_level-main.ensures
      (subst (λ own. AllStand c.args.self.now.carried own 0 c.main_level-main.result c.in_ok-of_functions.of_functions) c.as_slice.ensures c.in_ok-of_functions.ensures.levels);
  objects = c.in_ok-of_objects.ensures.count ∙ ap length c.as_slice-objects.ensures;
  of_objects = objects_are (annotated c.args.self.now.typed.now c.args.self.now.labels.now) c.args.self.now.own c.args.self.now.uses.functions c.args.self.now.uses.lines c.args.self.now.carried c.requires.grounds c.main_level-main.result c.in_ok-of_objects.of_objects c.main_level-main.ensures
      (subst (λ own. AllStand c.args.self.now.carried own 1 c.main_level-main.result c.in_ok-of_objects.of_objects) c.as_slice-2.ensures c.in_ok-of_objects.ensures.levels);
  main = c.main_level-main.ensures;
}
