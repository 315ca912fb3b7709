use Rattle.std.proofs.Common.{◌≡◌, [], drop}
use Rattle.cl_tree.specs.Literals.{unescaped}
use Rattle.cl_literals.proofs.literals.unescape.Given as goal

abbrev pub invariant-loop-i : goal.invariant-loop-i
invariant-loop-i l = unescaped l.skip l.done.items (drop l.i l.text) ≡ unescaped 0 [] l.text
