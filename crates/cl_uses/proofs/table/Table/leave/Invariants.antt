use Rattle.std.proofs.Common.{◌≡◌, ◌-◌, length, drop}
use Rattle.cl_uses.proofs.table.Table.leave.Given as goal

abbrev pub invariant-loop-self : goal.invariant-loop-self
invariant-loop-self l = drop (length l.self - l.start) l.self ≡ drop (length l.initial.self - l.start) l.initial.self

abbrev pub decreases-loop-self : goal.decreases-loop-self
decreases-loop-self l = length l.self
