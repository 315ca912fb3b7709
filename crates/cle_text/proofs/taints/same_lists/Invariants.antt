use Rattle.std.proofs.Common.{◌≡◌, ◌≤◌, drop, length}
use Rattle.cl_labelling.specs.Text.{same_lists}
use Rattle.cle_text.proofs.taints.same_lists.Given as goal

abbrev pub invariant-loop-at : goal.invariant-loop-at
invariant-loop-at l = record {
  rest : same_lists (drop l.at l.some) (drop l.at l.others) ≡ same_lists l.some l.others;
  within : l.at ≤ length l.others;
}
