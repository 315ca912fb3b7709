use Rattle.std.proofs.Common.{◌≡◌, ◌++◌, map, drop, option_map}
use Rattle.serde_json.specs.View.{view}
use Rattle.cl_labelling.specs.Text.{names_in}
use Rattle.cl_labelling.specs.Json.{each}
use Rattle.cle_text.proofs.taints.each_list.Given as goal

abbrev pub invariant-loop-part : goal.invariant-loop-part
invariant-loop-part l = option_map (λ ys. l.found ++ ys) (each (names_in) (map view (drop l.part-index l.parts))) ≡ each (names_in) (map view l.parts)
