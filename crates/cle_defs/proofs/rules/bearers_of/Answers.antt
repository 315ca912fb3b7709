use Rattle.std.proofs.Common.{◌≡◌, IfOk, subst}
use Rattle.cle_share.specs.Bearings.{bearings}
use Rattle.cle_items.specs.Numbered.{numbered}
use Rattle.cle_defs.proofs.Items.{bearers_here}
use Rattle.cle_defs.proofs.rules.bearers_of.Goals as goal

pub returns : goal.returns
returns c = subst (λ x. IfOk c.bearers.result (λ found. bearings found.items ≡ x)) (bearers_here c.args.program.now (numbered c.args.all.now) c.requires) c.bearers.ensures
