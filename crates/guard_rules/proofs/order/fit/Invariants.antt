use Rattle.std.proofs.Common.{◌≡◌}
use Rattle.guard_rules.specs.Guards.{fitted}
use Rattle.guard_rules.proofs.Fitting.{fitted_from}
use Rattle.guard_rules.proofs.order.fit.Given as goal

abbrev pub invariant-loop-place : goal.invariant-loop-place
invariant-loop-place l = fitted_from l.kinds l.place l.values ≡ fitted l.kinds l.initial.values
