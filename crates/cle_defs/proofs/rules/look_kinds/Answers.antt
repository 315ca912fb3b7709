use Rattle.std.proofs.Common.{subst}
use Rattle.cl_scope.specs.Finds.{Finds}
use Rattle.cle_items.specs.Numbered.{numbered}
use Rattle.cle_defs.proofs.Items.{kinds_here}
use Rattle.cle_defs.proofs.rules.look_kinds.Goals as goal

pub returns : goal.returns
returns c = subst (λ ls. Finds c.wrong_kind.result ls) (kinds_here c.args.program.now c.args.labels.now (numbered c.args.all.now) c.requires.labels c.requires.items) c.wrong_kind.ensures
