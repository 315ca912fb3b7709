use Rattle.std.proofs.Common.{◌≡◌, ◌++◌}
use Rattle.cl_tree.specs.Tokens.{joined_behind, joined}
use Rattle.cl_lex.proofs.passes.join_strings.Given as goal

abbrev pub invariant-loop-t : goal.invariant-loop-t
invariant-loop-t l = l.out.items ++ joined_behind l.last l.t-iterator.rest.items ≡ joined l.fn.tokens.items
