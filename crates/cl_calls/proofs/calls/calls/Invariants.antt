use Rattle.std.proofs.Common.{◌≡◌, ◌++◌, map, drop}
use Rattle.cl_levels.specs.Crossings.{call_in}
use Rattle.cl_levels.specs.Uses.{each_from}
use Rattle.cl_calls.specs.Calls.{calls_in}
use Rattle.cl_calls.proofs.calls.calls.Given as goal

abbrev pub invariant-loop-f : goal.invariant-loop-f
invariant-loop-f l = l.calls.items ++ each_from call_in l.f (map (λ b. b.uses) (drop l.f l.bodies)) ≡ calls_in (map (λ b. b.uses) l.bodies)
