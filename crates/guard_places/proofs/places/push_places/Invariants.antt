use Rattle.std.proofs.Common.{◌≡◌, ◌++◌, ◌+◌, drop}
use Rattle.guard_places.specs.Places.{chosen_places}
use Rattle.guard_places.proofs.places.push_places.Given as goal

abbrev pub invariant-loop-index : goal.invariant-loop-index
invariant-loop-index l = l.out.items ++ chosen_places (l.at + l.index) (drop l.index l.leaves) ≡ l.initial.out.items ++ chosen_places l.at l.leaves
