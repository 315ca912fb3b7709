use Rattle.std.proofs.Common.{◌≡◌, ◌++◌, map, drop, option_map}
use Rattle.serde_json.specs.View.{view}
use Rattle.cl_labelling.specs.Text.{taints_in}
use Rattle.cl_labelling.specs.Json.{each}
use Rattle.cle_text.proofs.taints.each_taints.Given as goal

abbrev pub invariant-loop-entry : goal.invariant-loop-entry
invariant-loop-entry l = option_map (λ ys. l.found.items ++ ys) (each (taints_in) (map view (drop l.entry-index l.entries))) ≡ each (taints_in) (map view l.entries)
