use Rattle.std.proofs.Common.{◌≡◌, ◌++◌, drop}
use Rattle.std.specs.List.{flat_map}
use Rattle.cle_table.specs.Numbers.{ways_in}
use Rattle.cle_table.proofs.ways.add_bodies.Given as goal

abbrev pub invariant-loop-function : goal.invariant-loop-function
invariant-loop-function l = l.ways.items ++ flat_map (λ b. ways_in b.notes) (drop l.function-index l.functions)
    ≡ l.initial.ways.items ++ flat_map (λ b. ways_in b.notes) l.functions
