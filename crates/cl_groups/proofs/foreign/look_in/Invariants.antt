use Rattle.std.proofs.Common.{◌≡◌, drop}
use Rattle.std.specs.List.{flat_map}
use Rattle.cl_groups.specs.Foreign.{foreign_by}
use Rattle.cl_groups.proofs.foreign.look_in.Given as goal

abbrev pub invariant-loop-used : goal.invariant-loop-used
invariant-loop-used l = flat_map (foreign_by l.own l.f) (drop l.used-index l.uses) ≡ flat_map (foreign_by l.own l.f) l.uses
