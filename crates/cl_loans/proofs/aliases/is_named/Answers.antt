use Rattle.std.proofs.Common.{arith}
use Rattle.std.proofs.lemmas.Bool.{false≢true}
use Rattle.cl_loans.proofs.aliases.is_named.Goals as goal

pub returns-then-k : goal.returns-then-k
returns-then-k c = (λ t. absurd (false≢true t), λ n. absurd (omega (arith, n.0)))

pub returns : goal.returns
returns c = (λ t. (omega arith, c.has.ensures.0 t), λ n. c.has.ensures.1 n.1)
