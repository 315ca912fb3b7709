use Rattle.std.proofs.Common.{◌≡◌, map, length}
use Rattle.cl_tree.specs.Words.{entry}
use Rattle.cl_terminals.proofs.words.kind_in.Given as goal

abbrev pub invariant-loop-table : goal.invariant-loop-table
invariant-loop-table l = entry (map (λ row. (row.0.now, row.1)) l.table) l.word ≡ entry (map (λ row. (row.0.now, row.1)) l.initial.table) l.word

abbrev pub decreases-loop-table : goal.decreases-loop-table
decreases-loop-table l = length l.table
