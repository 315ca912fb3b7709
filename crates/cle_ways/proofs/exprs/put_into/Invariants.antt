use Rattle.std.proofs.Common.{◌≡◌, ◌++◌, take}
use Rattle.cle_ways.specs.Ways.{into}
use Rattle.cle_ways.proofs.exprs.put_into.Given as goal

abbrev pub invariant-loop-origin : goal.invariant-loop-origin
invariant-loop-origin l = l.notes.items ≡ l.initial.notes.items ++ into l.x (take l.origin-index l.origins)
