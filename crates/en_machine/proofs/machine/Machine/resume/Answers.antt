use Rattle.std.proofs.Common.{◌≡◌, sym, ap, subst}
use Rattle.std.specs.Prelude.{slice_get, true}
use Rattle.en_machine.specs.declared.phase.Phase.TheVariants.{Runs, Awaits}
use Rattle.en_machine.specs.Begins.{resumed}
use Rattle.en_machine.specs.Life.{fits_reply}
use Rattle.en_machine.specs.Steps.{Running}
use Rattle.en_machine.specs.Seen.{Machine}
use Rattle.en_machine.specs.Alive.{machine_of}
use Rattle.en_machine.proofs.Begun.{alive_resumed}
use Rattle.en_machine.proofs.machine.Machine.resume.Goals as goal

pub invariant_of-self : goal.invariant_of-self
invariant_of-self c =
    let m = c.self.inside in
    let vs = c.args.values.now in
    let row = c.requires.awaits.0 in
    let awaits = subst (λ (x : Machine). x.phase ≡ Awaits row) (sym c.self.view_is) c.requires.awaits.1 in
    let fit = subst (λ (x : Machine). fits_reply (slice_get x.image.payloads row) vs ≡ true) (sym c.self.view_is) c.requires.awaits.2 in
    alive_resumed m c.give.new.self c.self.invariant c.give.ensures.sizes row vs awaits fit c.give.ensures.state

pub returns : goal.returns
returns c =
    let m = c.self.inside in
    let vs = c.args.values.now in
    let new = machine_of (record m { phase = Runs; engine = c.give.new.self }) in
    record {
      resumed = subst (λ (x : Machine). new ≡ record x { phase = Runs; state = resumed x.image vs x.state }) c.self.view_is (ap (λ (s : Running). record (machine_of m) { phase = Runs; state = s }) c.give.ensures.state);
    }
