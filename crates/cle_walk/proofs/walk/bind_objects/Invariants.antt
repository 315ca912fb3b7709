use Rattle.std.proofs.Common.{◌≡◌, drop}
use Rattle.cl_levels.specs.Uses.{with_objects}
use Rattle.cle_walk.proofs.walk.bind_objects.Given as goal

abbrev pub invariant-loop-d : goal.invariant-loop-d
invariant-loop-d l = with_objects (drop l.d-index l.ds) l.spot ≡ with_objects l.ds l.initial.spot
