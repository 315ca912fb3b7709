use Rattle.std.proofs.Common.{◌≡◌, drop}
use Rattle.cl_tree.specs.Words.{Word}
use Rattle.cle_items.specs.Numbered.{function_label, noted_at, numbered, or_first}
use Rattle.cle_items.proofs.functions.Chosen.of.Given as goal

abbrev pub invariant-loop-item : goal.invariant-loop-item
invariant-loop-item l = (q : Word) → or_first (noted_at l.chosen q) (function_label (numbered (drop l.item-index l.all)) q) ≡ function_label (numbered l.all) q
