use Rattle.std.proofs.Common.{◌≡◌, ◌≢◌, sym, ap, subst}
use Rattle.std.specs.Prelude.{IsSome}
use Rattle.en_machine.specs.declared.phase.Phase.TheVariants.{Runs}
use Rattle.en_machine.specs.Begins.{started}
use Rattle.en_machine.specs.Steps.{Running}
use Rattle.en_machine.specs.Seen.{Machine, seen}
use Rattle.en_machine.specs.Alive.{machine_of}
use Rattle.en_machine.proofs.Begun.{is_started, alive_started}
use Rattle.en_machine.proofs.machine.Machine.start.Goals as goal

pub invariant_of-self : goal.invariant_of-self
invariant_of-self c =
    let m = c.self.inside in
    let is = is_started m.image (seen m.engine) (seen c.begin.new.self) c.entrance-entrance.result c.entrance-entrance.ensures.value c.begin.ensures.state in
    let main = subst (λ (x : Machine). IsSome x.image.main) (sym c.self.view_is) c.requires.has_main in
    let rests = subst (λ (x : Machine). x.phase ≢ Runs) (sym c.self.view_is) c.requires.rests in
    alive_started m c.begin.new.self c.self.invariant c.begin.ensures.sizes rests main is

pub returns : goal.returns
returns c =
    let m = c.self.inside in
    let is = is_started m.image (seen m.engine) (seen c.begin.new.self) c.entrance-entrance.result c.entrance-entrance.ensures.value c.begin.ensures.state in
    let new = machine_of (record m { phase = Runs; engine = c.begin.new.self }) in
    record {
      begun = subst (λ (x : Machine). new ≡ record x { phase = Runs; state = started x.image x.state }) c.self.view_is (ap (λ (s : Running). record (machine_of m) { phase = Runs; state = s }) is);
    }
