use Rattle.std.proofs.Common.{refl}
use Rattle.cl_mean.specs.Guarded.{fitted as fitted_values}
use Rattle.cl_mean.specs.Value.{bare}
use Rattle.guard_rules.specs.Guards.{fitted}
use Rattle.guard_rules.proofs.Numbers.{laws_same, fitted_numbers}
use Rattle.guard_rules.proofs.laws.labels_do_not_matter.Goals as goal

pub returns : goal.returns
returns c kinds = laws_same (λ x. x.number) bare (λ n. n) (λ n. refl) (fitted_values kinds) (fitted kinds) (fitted_numbers kinds)
