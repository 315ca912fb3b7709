use Rattle.std.proofs.Common.{◌≡◌, ◌++◌, map, drop, option_map}
use Rattle.serde_json.specs.View.{view}
use Rattle.serde_json.specs.Find.{as_str}
use Rattle.cl_labelling.specs.Json.{each}
use Rattle.cle_text.proofs.parts.each_text.Given as goal

abbrev pub invariant-loop-part : goal.invariant-loop-part
invariant-loop-part l = option_map (λ ys. l.found ++ ys) (each (as_str) (map view (drop l.part-index l.parts))) ≡ each (as_str) (map view l.parts)
