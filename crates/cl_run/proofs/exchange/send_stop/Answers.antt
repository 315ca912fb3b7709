use Rattle.std.proofs.Common.{rules, ◌≡◌, ◌+◌, ℕ, ap, Ok}
use Rattle.hal_route.specs.declared.uplink.Passed.TheVariants.{Stop}
use Rattle.cl_run.proofs.Sends.{stop_goes}
use Rattle.cl_run.proofs.exchange.send_stop.Goals as goal

pub unreachable-requires : goal.unreachable-requires
unreachable-requires c =
    let answer : c.take.result ≡ Ok Stop = (stop_goes c.stop_passes.ensures _ _ _ _ _ (record { mux = 0; sec = 0; typ = 0; turn = c.frames.result + 1; kind = 3; length = 0 }) c.requires.ready (ap (λ (n : ℕ). record { mux = 0; sec = 0; typ = 0; turn = n + 1; kind = 3; length = 0 }) c.frames.ensures) c.take.ensures.taken c.set_header.ensures.bytes).0 in
    search rules
