use Rattle.std.proofs.Common.{◌≡◌, ◌≤◌, All, length, map, sym, subst}
use Rattle.cl_groups.specs.Ties.{IsBelow}
use Rattle.cl_levels.specs.Crossings.{aliased}
use Rattle.cl_levels.specs.Uses.{uses_of}
use Rattle.cl_split.specs.Answer.{annotated}
use Rattle.cl_split.proofs.Calling.{aliased_is}
use Rattle.cl_split.proofs.Laws.{few_bodies, bodies_below}
use Rattle.cl_split.proofs.Refused.{rule_answer}
use Rattle.cl_split.proofs.crossed.Crossed.look_loans.Goals as goal

pub aliased-found-requires-clause-few : goal.aliased-found-requires-clause-few
aliased-found-requires-clause-few c =
    subst (λ bs. length bs ≤ 4096) (sym c.as_slice.ensures) (few_bodies c.args.self.now.typed.now c.requires.typed c.args.self.now.uses.functions c.requires.uses)

pub aliased-found-requires-clause-below : goal.aliased-found-requires-clause-below
aliased-found-requires-clause-below c =
    subst (λ bs. All (λ b. All IsBelow b.uses) bs) (sym c.as_slice.ensures) (bodies_below c.args.self.now.typed.now c.requires.typed c.args.self.now.uses.functions c.requires.uses)

pub aliased-found-requires-clause-uses : goal.aliased-found-requires-clause-uses
aliased-found-requires-clause-uses c =
    subst (λ bs. map (λ b. b.uses) bs ≡ uses_of c.args.self.now.typed.now) (sym c.as_slice.ensures) c.requires.uses

pub returns : goal.returns
returns c =
    rule_answer 29 (aliased (annotated c.args.self.now.typed.now c.args.self.now.labels.now)) c.aliased-found.result c.ruled.result c.ruled.ensures
    (aliased_is c.args.self.now.typed.now c.args.self.now.labels.now c.aliased-found.result c.aliased-found.ensures)
