use Rattle.std.proofs.Common.{◌≡◌, [], drop, length}
use Rattle.cl_tree.specs.Directives.{blanked}
use Rattle.cl_tree.specs.declared.pieces.Part.TheVariants.{Code}
use Rattle.cl_literals.proofs.directives.blanked.Given as goal

abbrev pub invariant-loop-i : goal.invariant-loop-i
invariant-loop-i l = record {
  count : length l.done.items ≡ l.i;
  same : blanked l.part l.done.items (drop l.i l.text) ≡ blanked Code [] l.text;
}
