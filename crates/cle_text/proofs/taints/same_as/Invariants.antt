use Rattle.std.proofs.Common.{◌≡◌, drop}
use Rattle.std.specs.List.{list_all}
use Rattle.cl_labelling.specs.Text.{same_taints}
use Rattle.cle_text.proofs.taints.same_as.Given as goal

abbrev pub invariant-loop-other : goal.invariant-loop-other
invariant-loop-other l = list_all (same_taints l.first) (drop l.other-index l.others) ≡ list_all (same_taints l.first) l.others
