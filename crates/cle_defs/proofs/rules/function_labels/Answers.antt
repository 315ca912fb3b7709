use Rattle.std.proofs.Common.{◌≡◌, IfOk, subst, sym}
use Rattle.cle_items.specs.Numbered.{numbered}
use Rattle.cle_defs.proofs.Items.{functions_here}
use Rattle.cle_defs.proofs.rules.function_labels.Goals as goal

pub returns : goal.returns
returns c = subst (λ x. IfOk c.on_functions.result (λ found. found ≡ x)) (functions_here c.args.typed.now.program c.args.typed.now.functions (numbered c.args.all.now) c.requires) (rw (sym c.as_slice.ensures) c.on_functions.ensures)
