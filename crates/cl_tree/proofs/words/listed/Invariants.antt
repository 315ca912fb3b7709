use Rattle.std.proofs.Common.{◌≡◌, map, length}
use Rattle.cl_tree.specs.Words.{listed}
use Rattle.cl_tree.proofs.words.listed.Given as goal

abbrev pub invariant-loop-table : goal.invariant-loop-table
invariant-loop-table l = listed (map (λ w. w.now) l.table) l.word ≡ listed (map (λ w. w.now) l.initial.table) l.word

abbrev pub decreases-loop-table : goal.decreases-loop-table
decreases-loop-table l = length l.table
