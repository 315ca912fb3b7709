use Rattle.std.proofs.Common.{◌≡◌, drop}
use Rattle.cl_typing.specs.Wrong.{types_wrong}
use Rattle.cl_wrong.proofs.inits.look_types.Given as goal

abbrev pub invariant-loop-d : goal.invariant-loop-d
invariant-loop-d l = types_wrong (drop l.d-index l.ds) ≡ types_wrong l.ds
