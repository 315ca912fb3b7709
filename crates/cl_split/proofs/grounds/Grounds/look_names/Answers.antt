use Rattle.std.proofs.Common.{◌≡◌, map, refl, sym, ap, subst, ◌∙◌, [], Ok, Err}
use Rattle.cl_levels.proofs.Lists.{empty_holds, begins_first}
use Rattle.cl_levels.specs.Levels.{foreign_names}
use Rattle.cl_typing.specs.Rules.{Begins}
use Rattle.cl_scope.specs.Finds.{Finds}
use Rattle.cl_groups.specs.Foreign.{foreign_in}
use Rattle.cl_split.specs.Answer.{annotated}
use Rattle.cl_split.proofs.Steps.{foreign_is}
use Rattle.cl_split.proofs.grounds.Grounds.look_names.Goals as goal

pub returns-in-Ok : goal.returns-in-Ok
returns-in-Ok c =
    let e = foreign_is (annotated c.args.self.now.typed.now c.args.self.now.labels.now) c.args.self.now.own c.args.self.now.uses.functions c.args.self.now.uses.lines c.args.self.now.carried c.requires in
    empty_holds (foreign_names (annotated c.args.self.now.typed.now c.args.self.now.labels.now))
    (sym e ∙ ap (λ bs. foreign_in c.args.self.now.own 0 (map (λ b. b.uses) bs)) (sym c.as_slice.ensures) ∙ c.in-Ok.ensures)

pub returns-in-Err-At : goal.returns-in-Err-At
returns-in-Err-At c =
    let e = foreign_is (annotated c.args.self.now.typed.now c.args.self.now.labels.now) c.args.self.now.own c.args.self.now.uses.functions c.args.self.now.uses.lines c.args.self.now.carried c.requires in (
      refl,
      begins_first (foreign_names (annotated c.args.self.now.typed.now c.args.self.now.labels.now)) c.in-Err-At.line
          (subst (λ ls. Begins ls c.in-Err-At.line) (ap (λ bs. foreign_in c.args.self.now.own 0 (map (λ b. b.uses) bs)) c.as_slice.ensures ∙ e)
          (subst (λ t. Finds (Err t) (foreign_in c.args.self.now.own 0 (map (λ b. b.uses) c.as_slice.result.now))) c.in-Err-At.field-0-is c.in-Err-At.ensures)),
    )
