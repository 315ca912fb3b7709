use Rattle.std.proofs.Common.{All}
use Rattle.guard_rules.specs.Places.{IsRight}
use Rattle.guard_rules.proofs.found.Paths.new.Given as goal

abbrev pub invariant-loop-turn : goal.invariant-loop-turn
invariant-loop-turn l = All (IsRight l.checked) l.slots.items
