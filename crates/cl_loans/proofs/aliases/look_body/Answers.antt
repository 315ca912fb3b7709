use Rattle.std.proofs.Common.{◌+◌, drop, subst, sym, arith}
use Rattle.std.specs.List.{flat_map}
use Rattle.cl_levels.proofs.Steps.{next, none_left}
use Rattle.cl_loans.specs.Loans.{Clashes, PlacesOf, loan_by}
use Rattle.cl_loans.proofs.Searched.{goes_on, stops, ends, handed}
use Rattle.cl_loans.proofs.aliases.look_body.Goals as goal

pub loop-used-preserved : goal.loop-used-preserved
loop-used-preserved c =
    goes_on (Clashes c.args.searched.now.named.now) (loan_by c.args.searched.now.typed.now c.used-item.result) (flat_map (loan_by c.args.searched.now.typed.now) (drop c.loop-used.used-index c.args.uses.now)) _
    (flat_map (loan_by c.args.searched.now.typed.now) (drop (c.loop-used.used-index + 1) c.args.uses.now)) c.in_ok-look_use.ensures
    (next (loan_by c.args.searched.now.typed.now) c.args.uses.now c.loop-used.used-index c.used-item.result (omega arith) c.used-item.is) c.loop-used.invariant

pub returns-in_err-look_use : goal.returns-in_err-look_use
returns-in_err-look_use c =
    handed (PlacesOf (Clashes c.args.searched.now.named.now) (flat_map (loan_by c.args.searched.now.typed.now) c.args.uses.now)) c.from_residual.result c.in_err-look_use.field-0.0 c.from_residual.ensures.1
    (stops (Clashes c.args.searched.now.named.now) (loan_by c.args.searched.now.typed.now c.used-item.result) (flat_map (loan_by c.args.searched.now.typed.now) (drop c.loop-used.used-index c.args.uses.now)) _
    (flat_map (loan_by c.args.searched.now.typed.now) (drop (c.loop-used.used-index + 1) c.args.uses.now)) _ c.in_err-look_use.ensures
    (next (loan_by c.args.searched.now.typed.now) c.args.uses.now c.loop-used.used-index c.used-item.result (omega arith) c.used-item.is) c.loop-used.invariant)

pub returns : goal.returns
returns c = ends (Clashes c.args.searched.now.named.now) _ _ (none_left (loan_by c.args.searched.now.typed.now) c.args.uses.now c.loop-used.used-index (omega arith)) c.loop-used.invariant
