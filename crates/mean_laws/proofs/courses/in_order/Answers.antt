use Rattle.mean_laws.proofs.InOrder.{pure_first, then_pure, grouped}
use Rattle.mean_laws.proofs.courses.in_order.Goals as goal

pub returns-clause-first : goal.returns-clause-first
returns-clause-first g c = pure_first

pub returns-clause-last : goal.returns-clause-last
returns-clause-last g c = then_pure

pub returns-clause-grouped : goal.returns-clause-grouped
returns-clause-grouped g c = grouped
