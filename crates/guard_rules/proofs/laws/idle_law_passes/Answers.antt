use Rattle.guard_rules.proofs.Idle.{idle_passes}
use Rattle.guard_rules.proofs.laws.idle_law_passes.Goals as goal

pub returns : goal.returns
returns c = idle_passes (λ n. n)
