use Rattle.std.proofs.Common.{All}
use Rattle.guard_places.specs.Tables.{IsKept}
use Rattle.guard_places.proofs.tables.Tables.new.Given as goal

abbrev pub invariant-loop-turn : goal.invariant-loop-turn
invariant-loop-turn l = All (IsKept l.checked) l.slots.items
