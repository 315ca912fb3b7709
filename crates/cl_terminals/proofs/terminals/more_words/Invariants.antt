use Rattle.std.proofs.Common.{◌≡◌, ◌++◌, length}
use Rattle.cl_tree.specs.Runs.{more_words}
use Rattle.cl_terminals.proofs.terminals.more_words.Given as goal

abbrev pub invariant-words : goal.invariant-words
invariant-words l = l.text.items ++ more_words l.rest ≡ l.initial.text.items ++ more_words l.initial.rest

abbrev pub decreases-words : goal.decreases-words
decreases-words l = length l.rest
