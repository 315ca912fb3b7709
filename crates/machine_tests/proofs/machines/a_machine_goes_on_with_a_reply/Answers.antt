use Rattle.machine_tests.proofs.Asking.{reply_fits}
use Rattle.machine_tests.proofs.machines.a_machine_goes_on_with_a_reply.Goals as goal

pub resume-requires : goal.resume-requires
resume-requires g c = record {
  awaits = (0, c.asks.ensures.awaits, reply_fits c.asks.new.machine.image c.asks.ensures.image);
}
