use Rattle.std.proofs.Common.{◌+◌, ◌++◌, map, drop, ap, sym, ◌∙◌, arith}
use Rattle.std.specs.List.{flat_map}
use Rattle.cl_levels.specs.Uses.{each_from}
use Rattle.cl_levels.proofs.Steps.{next_body, no_body_left}
use Rattle.cl_loans.specs.Loans.{Clashes, PlacesOf, loan_by, loans_in}
use Rattle.cl_loans.proofs.Searched.{goes_on, stops, ends, handed}
use Rattle.cl_loans.proofs.aliases.look.Goals as goal

pub loop-body-preserved : goal.loop-body-preserved
loop-body-preserved c =
    goes_on (Clashes c.args.searched.now.named.now) (flat_map (loan_by c.args.searched.now.typed.now) c.as_slice.result.now) _ _
    (each_from (λ f. loan_by c.args.searched.now.typed.now) (c.loop-body.body-index + 1) (map (λ b. b.uses) (drop (c.loop-body.body-index + 1) c.args.bodies.now))) c.in_ok-look_body.ensures
    (next_body (λ f. loan_by c.args.searched.now.typed.now) c.args.bodies.now c.loop-body.body-index c.body-item.result (omega arith) c.body-item.is
    ∙ ap (λ us. flat_map (loan_by c.args.searched.now.typed.now) us ++ each_from (λ f. loan_by c.args.searched.now.typed.now) (c.loop-body.body-index + 1) (map (λ b. b.uses) (drop (c.loop-body.body-index + 1) c.args.bodies.now))) (sym c.as_slice.ensures))
    c.loop-body.invariant

pub returns-in_err-look_body : goal.returns-in_err-look_body
returns-in_err-look_body c =
    handed (PlacesOf (Clashes c.args.searched.now.named.now) (loans_in c.args.searched.now.typed.now (map (λ b. b.uses) c.args.bodies.now))) c.from_residual.result c.in_err-look_body.field-0.0 c.from_residual.ensures.1
    (stops (Clashes c.args.searched.now.named.now) (flat_map (loan_by c.args.searched.now.typed.now) c.as_slice.result.now) _ _
    (each_from (λ f. loan_by c.args.searched.now.typed.now) (c.loop-body.body-index + 1) (map (λ b. b.uses) (drop (c.loop-body.body-index + 1) c.args.bodies.now))) _ c.in_err-look_body.ensures
    (next_body (λ f. loan_by c.args.searched.now.typed.now) c.args.bodies.now c.loop-body.body-index c.body-item.result (omega arith) c.body-item.is
    ∙ ap (λ us. flat_map (loan_by c.args.searched.now.typed.now) us ++ each_from (λ f. loan_by c.args.searched.now.typed.now) (c.loop-body.body-index + 1) (map (λ b. b.uses) (drop (c.loop-body.body-index + 1) c.args.bodies.now))) (sym c.as_slice.ensures))
    c.loop-body.invariant)

pub returns : goal.returns
returns c = ends (Clashes c.args.searched.now.named.now) _ _ (no_body_left (λ f. loan_by c.args.searched.now.typed.now) c.args.bodies.now c.loop-body.body-index c.loop-body.body-index (omega arith)) c.loop-body.invariant
