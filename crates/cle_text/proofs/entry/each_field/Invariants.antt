use Rattle.std.proofs.Common.{◌≡◌, ◌++◌, map, drop, option_map}
use Rattle.serde_json.specs.View.{view}
use Rattle.cl_labelling.specs.Text.{redact_field}
use Rattle.cl_labelling.specs.Json.{each}
use Rattle.cle_text.proofs.entry.each_field.Given as goal

abbrev pub invariant-loop-part : goal.invariant-loop-part
invariant-loop-part l = option_map (λ ys. l.found ++ ys) (each (redact_field) (map view (drop l.part-index l.parts))) ≡ each (redact_field) (map view l.parts)
