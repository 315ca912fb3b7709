use Rattle.std.proofs.Common.{◌≡◌, ◌++◌, take, drop}
use Rattle.cl_mean.specs.Shape.{times}
use Rattle.rpc_codec.proofs.leaves.repeat.Given as goal

abbrev pub invariant-loop-turn : goal.invariant-loop-turn
invariant-loop-turn l = l.out.items ≡ take l.start l.initial.out.items ++ times l._turn (drop l.start l.initial.out.items)
