use Rattle.std.proofs.Common.{◌≡◌, IfOk, subst}
use Rattle.cle_items.specs.Numbered.{numbered}
use Rattle.cle_defs.proofs.Items.{objects_here}
use Rattle.cle_defs.proofs.rules.object_labels.Goals as goal

pub returns : goal.returns
returns c = subst (λ x. IfOk c.on_objects.result (λ found. found ≡ x)) (objects_here c.args.program.now (numbered c.args.all.now) c.requires) c.on_objects.ensures
