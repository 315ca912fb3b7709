use Rattle.std.proofs.Common.{drop}
use Rattle.std.specs.List.{flat_map}
use Rattle.cl_loans.specs.Loans.{Clashes, loan_by}
use Rattle.cl_loans.proofs.Searched.{Left}
use Rattle.cl_loans.proofs.aliases.look_body.Given as goal

abbrev pub invariant-loop-used : goal.invariant-loop-used
invariant-loop-used l = Left (Clashes l.searched.named.now) (flat_map (loan_by l.searched.typed.now) (drop l.used-index l.uses)) (flat_map (loan_by l.searched.typed.now) l.uses)
