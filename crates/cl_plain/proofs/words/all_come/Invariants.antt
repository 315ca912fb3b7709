use Rattle.std.proofs.Common.{◌≡◌, drop}
use Rattle.cl_tree.specs.Spelling.{all_come}
use Rattle.cl_plain.specs.Wanting.{written}
use Rattle.cl_plain.proofs.words.all_come.Given as goal

abbrev pub invariant-loop-terminal : goal.invariant-loop-terminal
invariant-loop-terminal l = all_come (written (drop l.terminal-index l.terminals)) ≡ all_come (written l.terminals)
