use Rattle.std.proofs.Common.{◌≡◌, List, sym, subst, rules}
use Rattle.en_fused.specs.Fused.{AllRight}
use Rattle.en_image.specs.declared.instr.Instr.{Instr}
use Rattle.en_machine.specs.declared.phase.Phase.TheVariants.{Rests}
use Rattle.en_machine.specs.Life.{Lived, opens}
use Rattle.en_machine.specs.Steps.{Running}
use Rattle.en_machine.proofs.machine.Machine.open.Goals as goal

pub invariant_of-result : goal.invariant_of-result
invariant_of-result c =
    let same : c.as_slice.result.now ≡ c.args.image.code = search rules in
    record {
      bytes = λ k d h. search rules;
      lived = subst (λ (m : Running). Lived c.args.image c.args.input.items c.args.steps Rests m) (sym c.in_ok-engine.ensures.state) opens;
      statics = c.in_ok-engine.ensures.statics;
      widest = c.in_ok-engine.ensures.widest;
      entries = subst (λ (l : List Instr). AllRight l c.in_ok-entries.entries.items) same c.in_ok-entries.ensures.right;
    }
