use Rattle.en_machine.proofs.Begun.{alive_blocked}
use Rattle.en_machine.proofs.machine.Machine.resume_blocked.Goals as goal

pub invariant_of-self : goal.invariant_of-self
invariant_of-self c =
    alive_blocked c.self.inside c.block.new.self c.self.invariant c.block.ensures.sizes c.in-Awaits.row c.in-Awaits.is c.block.ensures.state
