use Rattle.std.proofs.Common.{◌≡◌, ◌++◌, ◌∷◌, ◌-◌, []}
use Rattle.cl_mean.specs.Shape.{times}
use Rattle.cle_items.proofs.objects.push_times.Given as goal

abbrev pub invariant-loop : goal.invariant-loop
invariant-loop l = l.found ++ times (l.count - l.counter) (l.label ∷ []) ≡ l.initial.found ++ times l.count (l.label ∷ [])
