use Rattle.std.proofs.Common.{◌≡◌, take}
use Rattle.cle_ways.specs.Ways.{just}
use Rattle.cle_walk.proofs.walk.just.Given as goal

abbrev pub invariant-loop-mention : goal.invariant-loop-mention
invariant-loop-mention l = l.origins.items ≡ just (take l.mention-index l.mentions)
