use Rattle.std.proofs.Common.{◌≡◌, ◌++◌, drop}
use Rattle.cle_table.specs.Numbers.{ways_in}
use Rattle.cle_table.proofs.ways.add_ways.Given as goal

abbrev pub invariant-loop-note : goal.invariant-loop-note
invariant-loop-note l = l.ways.items ++ ways_in (drop l.note-index l.notes) ≡ l.initial.ways.items ++ ways_in l.notes
