use Rattle.std.proofs.Common.{◌≡◌, ◌+◌, length}
use Rattle.hal_route.specs.Hal.{callers}
use Rattle.hal_route.proofs.channel.callers.Given as goal

abbrev pub invariant-loop-left : goal.invariant-loop-left
invariant-loop-left l = l.count + callers l.left ≡ callers l.channels

abbrev pub decreases-loop-left : goal.decreases-loop-left
decreases-loop-left l = length l.left
