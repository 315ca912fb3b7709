use Rattle.std.proofs.Common.{sym, ◌∙◌, arith}
use Rattle.guard_rules.proofs.Fitting.{no_value_left, no_kind_left}
use Rattle.guard_rules.proofs.order.fit.Goals as goal

pub returns-then-place-values : goal.returns-then-place-values
returns-then-place-values c = sym (no_value_left c.args.kinds.now c.loop-place.values c.loop-place.place (omega arith)) ∙ c.loop-place.invariant

pub returns : goal.returns
returns c = sym (no_kind_left c.args.kinds.now c.loop-place.values c.loop-place.place (omega arith)) ∙ c.loop-place.invariant
