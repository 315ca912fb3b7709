use Rattle.std.proofs.Common.{◌≡◌, ◌≢◌, sym, ap, subst}
use Rattle.std.specs.Prelude.{slice_get, true}
use Rattle.en_machine.specs.declared.phase.Phase.TheVariants.{Runs}
use Rattle.en_machine.specs.Begins.{served}
use Rattle.en_machine.specs.Life.{IsServed, fits_request}
use Rattle.en_machine.specs.Steps.{Running}
use Rattle.en_machine.specs.Seen.{Machine, seen}
use Rattle.en_machine.specs.Alive.{machine_of}
use Rattle.en_machine.proofs.Begun.{is_served, alive_served}
use Rattle.en_machine.proofs.machine.Machine.serve.Goals as goal

pub invariant_of-self : goal.invariant_of-self
invariant_of-self c =
    let m = c.self.inside in
    let vs = c.args.values.now in
    let is = is_served m.image (seen m.engine) (seen c.begin.new.self) c.args.row vs c.serving.result c.entrance-entrance.result c.serving.ensures c.entrance-entrance.ensures.value c.begin.ensures.state in
    let here = subst (λ (x : Machine). IsServed x.image c.args.row) (sym c.self.view_is) c.requires.served in
    let rests = subst (λ (x : Machine). x.phase ≢ Runs) (sym c.self.view_is) c.requires.rests in
    let fit = subst (λ (x : Machine). fits_request (slice_get x.image.payloads c.args.row) vs ≡ true) (sym c.self.view_is) c.requires.values in
    alive_served m c.begin.new.self c.self.invariant c.begin.ensures.sizes c.args.row vs rests here fit is

pub returns : goal.returns
returns c =
    let m = c.self.inside in
    let vs = c.args.values.now in
    let is = is_served m.image (seen m.engine) (seen c.begin.new.self) c.args.row vs c.serving.result c.entrance-entrance.result c.serving.ensures c.entrance-entrance.ensures.value c.begin.ensures.state in
    let new = machine_of (record m { phase = Runs; engine = c.begin.new.self }) in
    record {
      begun = subst (λ (x : Machine). new ≡ record x { phase = Runs; state = served x.image c.args.row vs x.state }) c.self.view_is (ap (λ (s : Running). record (machine_of m) { phase = Runs; state = s }) is);
    }
