use Rattle.std.proofs.Common.{◌≡◌, ◌++◌, drop}
use Rattle.cl_levels.specs.Crossings.{array_roots}
use Rattle.cl_loans.proofs.lent.lent.Given as goal

abbrev pub invariant-loop-i : goal.invariant-loop-i
invariant-loop-i l = l.lent.items ++ array_roots (drop l.i l.params) (drop l.i l.roots) ≡ array_roots l.params l.roots
