use Rattle.std.proofs.Common.{◌≡◌, ◌++◌, map, drop}
use Rattle.cl_regions.specs.Marks.{kept_all}
use Rattle.cle_items.specs.Numbered.{number_kept, numbered}
use Rattle.cle_items.proofs.numbers.numbers.Given as goal

abbrev pub invariant-loop-mark : goal.invariant-loop-mark
invariant-loop-mark l = numbered l.all.items ++ map (number_kept l.names) (kept_all (drop l.mark-index l.marks)) ≡ map (number_kept l.names) (kept_all l.marks)
