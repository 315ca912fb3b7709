use Rattle.std.proofs.Common.{◌≡◌, drop}
use Rattle.cl_levels.specs.Uses.{with_params}
use Rattle.cle_walk.proofs.walk.bind_params.Given as goal

abbrev pub invariant-loop-d : goal.invariant-loop-d
invariant-loop-d l = with_params (drop l.d-index l.ds) l.spot ≡ with_params l.ds l.initial.spot
