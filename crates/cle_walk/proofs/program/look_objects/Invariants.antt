use Rattle.std.proofs.Common.{◌≡◌, ◌++◌, drop}
use Rattle.cle_ways.specs.Ways.{objects_from}
use Rattle.cle_walk.proofs.program.look_objects.Given as goal

abbrev pub invariant-loop-k : goal.invariant-loop-k
invariant-loop-k l = l.notes.items ++ objects_from l.program l.k (drop l.k l.objects) ≡ l.initial.notes.items ++ objects_from l.program 0 l.objects
