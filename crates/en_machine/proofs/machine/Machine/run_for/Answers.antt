use Rattle.std.proofs.Common.{◌≡◌, List, sym, subst}
use Rattle.en_fused.specs.declared.fused.Entry.{Entry}
use Rattle.en_fused.specs.Fused.{AllRight}
use Rattle.en_machine.specs.declared.phase.Phase.TheVariants.{Runs}
use Rattle.en_machine.specs.Life.{NeverStuck}
use Rattle.en_machine.specs.Seen.{Machine}
use Rattle.en_machine.proofs.Begun.{alive_after, never_none}
use Rattle.en_machine.proofs.machine.Machine.run_for.Goals as goal

pub invariant_of-self : goal.invariant_of-self
invariant_of-self c =
    let m = c.self.inside in
    let running = subst (λ (x : Machine). x.phase ≡ Runs) (sym c.self.view_is) c.requires.runs in
    let never = subst (λ (x : Machine). NeverStuck x.image) (sym c.self.view_is) c.requires.safe in
    alive_after m c.run_fused.new.self c.self.invariant c.run_fused.ensures.sizes c.args.n c.as_slice.result.now c.in-Some.stopped c.after-self-inside.result running never c.as_slice.ensures.value c.after-self-inside.ensures c.in-Some.ensures.told

pub unreachable-requires : goal.unreachable-requires
unreachable-requires c =
    let m = c.self.inside in
    let running = subst (λ (x : Machine). x.phase ≡ Runs) (sym c.self.view_is) c.requires.runs in
    let never = subst (λ (x : Machine). NeverStuck x.image) (sym c.self.view_is) c.requires.safe in
    never_none m c.run_fused.new.self c.self.invariant c.run_fused.ensures.sizes c.args.n c.as_slice.result.now running never c.as_slice.ensures.value c.in-None.ensures.told

pub run_fused-requires-clause-right : goal.run_fused-requires-clause-right
run_fused-requires-clause-right c = subst (λ (l : List Entry). AllRight c.self.inside.image.code l) (sym c.as_slice-entries.ensures.value) c.self.invariant.entries
