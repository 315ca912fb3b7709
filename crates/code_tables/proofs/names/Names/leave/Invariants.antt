use Rattle.std.proofs.Common.{◌≡◌, ◌-◌, length, drop}
use Rattle.code_tables.proofs.names.Names.leave.Given as goal

abbrev pub invariant-loop-self : goal.invariant-loop-self
invariant-loop-self l = drop (length l.self - l.start) l.self ≡ drop (length l.initial.self - l.start) l.initial.self

abbrev pub decreases-loop-self : goal.decreases-loop-self
decreases-loop-self l = length l.self
