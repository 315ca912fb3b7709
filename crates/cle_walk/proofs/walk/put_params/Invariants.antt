use Rattle.std.proofs.Common.{◌≡◌, ◌++◌, drop}
use Rattle.cle_ways.specs.Ways.{params_carry}
use Rattle.cle_walk.proofs.walk.put_params.Given as goal

abbrev pub invariant-loop-k : goal.invariant-loop-k
invariant-loop-k l = l.notes.items ++ params_carry l.f l.k (drop l.k l.args) ≡ l.initial.notes.items ++ params_carry l.f 0 l.args
