use Rattle.std.proofs.Common.{subst}
use Rattle.cl_scope.specs.Finds.{Finds}
use Rattle.cle_share.specs.Bearings.{bearings}
use Rattle.cle_fits.proofs.Bearing.{rule_is}
use Rattle.cle_fits.proofs.misfits.taints_misfit.Goals as goal

pub returns : goal.returns
returns c = subst (λ ls. Finds c.look.result ls) (rule_is c.args.program.now c.args.labels.now (bearings c.args.all.now) c.requires.labels c.requires.bearings) c.look.ensures
