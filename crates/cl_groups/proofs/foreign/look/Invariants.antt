use Rattle.std.proofs.Common.{◌≡◌, drop, map}
use Rattle.cl_groups.specs.Foreign.{foreign_in}
use Rattle.cl_groups.proofs.foreign.look.Given as goal

abbrev pub invariant-loop-f : goal.invariant-loop-f
invariant-loop-f l = foreign_in l.own l.f (map (λ b. b.uses) (drop l.f l.bodies)) ≡ foreign_in l.own 0 (map (λ b. b.uses) l.bodies)
