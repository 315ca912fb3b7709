use Rattle.std.proofs.Common.{◌≡◌, ◌<◌, ◌≤◌, ◌+◌, ◌*◌, ℕ, length, codes, Some, None, slice_index_or, sym, ap, subst, ◌∙◌, arith}
use Rattle.cl_groups.specs.Marks.{Stands}
use Rattle.cl_levels.specs.Uses.{number_among}
use Rattle.cl_levels.proofs.Levelled.{number_below}
use Rattle.cl_split.specs.Answer.{annotated}
use Rattle.cl_split.proofs.Answered.{main_there}
use Rattle.cl_split.proofs.Steps.{main_is}
use Rattle.cl_split.proofs.grounds.Grounds.main_level.Goals as goal

pub level_at-requires-clause-few : goal.level_at-requires-clause-few
level_at-requires-clause-few c =
    let e = ap (λ fs. number_among fs (codes "main")) (sym c.as_slice.ensures) ∙ sym c.main_number.ensures ∙ c.in-Some.is in
    let l : c.in-Some.k < 0 + length c.args.self.now.typed.now.functions = number_below 0 c.args.self.now.typed.now.functions (codes "main") c.in-Some.k e in
    let f : length c.args.self.now.typed.now.functions ≤ 4096 = c.requires.grounds.few_functions in
    omega arith

pub returns-in-Some : goal.returns-in-Some
returns-in-Some c =
    main_is (annotated c.args.self.now.typed.now c.args.self.now.labels.now) c.args.self.now.own c.args.self.now.uses.functions c.args.self.now.uses.lines c.args.self.now.carried c.requires.grounds c.in-Some.k c.level_at.result
    (ap (λ fs. number_among fs (codes "main")) (sym c.as_slice.ensures) ∙ sym c.main_number.ensures ∙ c.in-Some.is)
    (subst (λ own. Stands c.args.self.now.carried (slice_index_or own c.in-Some.k None) (2 * c.in-Some.k + 0) 0 c.level_at.result) c.as_slice-in-Some.ensures c.level_at.ensures)

pub returns-in-None : goal.returns-in-None
returns-in-None c = absurd (main_there c.args.self.now.typed.now c.requires.typed
    (ap (λ fs. number_among fs (codes "main")) (sym c.as_slice.ensures) ∙ sym c.main_number.ensures ∙ c.in-None.is))
