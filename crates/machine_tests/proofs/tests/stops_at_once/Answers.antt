use Rattle.std.proofs.Common.{◌≡◌, List, sym, subst, rules}
use Rattle.en_fused.specs.declared.fused.Entry.{Entry}
use Rattle.en_fused.specs.Fused.{AllRight}
use Rattle.en_image.specs.declared.instr.Instr.{Instr}
use Rattle.machine_tests.proofs.tests.stops_at_once.Goals as goal

pub run_fused-requires-clause-right : goal.run_fused-requires-clause-right
run_fused-requires-clause-right c =
    let code = c.in_ok-image.image.code in
    let first : c.as_slice.result.now ≡ code = search rules in
    let second : c.as_slice-2.result.now ≡ c.in_ok-entries.entries.items = search rules in
    subst (λ (l : List Entry). AllRight code l) (sym second) (subst (λ (l : List Instr). AllRight l c.in_ok-entries.entries.items) first c.in_ok-entries.ensures.right)
