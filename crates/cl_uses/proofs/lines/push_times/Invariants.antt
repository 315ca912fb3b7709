use Rattle.std.proofs.Common.{◌≡◌, ◌++◌, ◌∷◌, [], ◌-◌}
use Rattle.cl_mean.specs.Shape.{times}
use Rattle.cl_uses.proofs.lines.push_times.Given as goal

abbrev pub invariant-loop : goal.invariant-loop
invariant-loop l = l.lines.items ++ times (l.count - l.counter) (l.line ∷ []) ≡ l.initial.lines.items ++ times l.count (l.line ∷ [])
