use Rattle.std.proofs.Common.{map, drop}
use Rattle.cl_levels.specs.Uses.{each_from}
use Rattle.cl_loans.specs.Loans.{Clashes, loan_by, loans_in}
use Rattle.cl_loans.proofs.Searched.{Left}
use Rattle.cl_loans.proofs.aliases.look.Given as goal

abbrev pub invariant-loop-body : goal.invariant-loop-body
invariant-loop-body l =
    Left (Clashes l.searched.named.now) (each_from (λ f. loan_by l.searched.typed.now) l.body-index (map (λ b. b.uses) (drop l.body-index l.bodies)))
    (loans_in l.searched.typed.now (map (λ b. b.uses) l.bodies))
