use Rattle.std.proofs.Common.{ap, ◌∙◌}
use Rattle.en_machine.specs.Seen.{Machine}
use Rattle.machine_tests.proofs.Asking.{request_fits}
use Rattle.machine_tests.proofs.machines.a_machine_serves_and_goes_on_after_a_blocked_call.Goals as goal

pub serve-requires-clause-values : goal.serve-requires-clause-values
serve-requires-clause-values g c = request_fits c.in_ok-machine.machine.image c.in_ok-machine.ensures.image

pub ends-requires-clause-image : goal.ends-requires-clause-image
ends-requires-clause-image g c =
    ap (λ (m : Machine). m.image) (c.resume_blocked.ensures.resumed 0 c.asks.ensures.awaits) ∙ c.asks.ensures.image

pub ends-requires-clause-runs : goal.ends-requires-clause-runs
ends-requires-clause-runs g c = ap (λ (m : Machine). m.phase) (c.resume_blocked.ensures.resumed 0 c.asks.ensures.awaits)
