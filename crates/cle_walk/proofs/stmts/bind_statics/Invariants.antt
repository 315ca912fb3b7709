use Rattle.std.proofs.Common.{◌≡◌, drop}
use Rattle.cle_ways.specs.Ways.{statics_walk}
use Rattle.cle_walk.proofs.stmts.bind_statics.Given as goal

abbrev pub invariant-loop-d : goal.invariant-loop-d
invariant-loop-d l = (statics_walk (drop l.d-index l.ds) l.spot).1 ≡ (statics_walk l.ds l.initial.spot).1
