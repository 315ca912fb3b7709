use Rattle.std.proofs.Common.{sym, ◌∙◌}
use Rattle.std.proofs.lemmas.Bool.{false≢true}
use Rattle.cl_loans.specs.Loans.{Clashes}
use Rattle.cl_loans.proofs.Searched.{fine, here}
use Rattle.cl_loans.proofs.aliases.look_call.Goals as goal

pub returns-then-branch : goal.returns-then-branch
returns-then-branch c = here (Clashes c.args.searched.now.named.now) _ (c.in_ok-clashes.ensures.0 c.if-branch.true)

pub returns : goal.returns
returns c = fine (Clashes c.args.searched.now.named.now) _ (λ h. false≢true (sym c.if-branch.false ∙ c.in_ok-clashes.ensures.1 h))
