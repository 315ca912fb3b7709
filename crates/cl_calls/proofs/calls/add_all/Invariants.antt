use Rattle.std.proofs.Common.{◌≡◌, ◌++◌, drop}
use Rattle.std.specs.List.{flat_map}
use Rattle.cl_levels.specs.Crossings.{call_in}
use Rattle.cl_calls.proofs.calls.add_all.Given as goal

abbrev pub invariant-loop-used : goal.invariant-loop-used
invariant-loop-used l = l.calls.items ++ flat_map (call_in l.f) (drop l.used-index l.uses) ≡ l.initial.calls.items ++ flat_map (call_in l.f) l.uses
