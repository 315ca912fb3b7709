use Rattle.std.proofs.Common.{[], map}
use Rattle.cl_labelling.specs.Regions.{stmt_part, bad_regions}
use Rattle.cl_regions.specs.Walks.{IsSoFar}
use Rattle.cl_regions.proofs.places.+stmt.Given as goal

abbrev pub invariant-look_all-loop-s : goal.invariant-look_all-loop-s
invariant-look_all-loop-s l = IsSoFar l.walk (map stmt_part l.all) l.s-index (bad_regions [] (map stmt_part l.all))
