use Rattle.std.proofs.Common.{◌≡◌, ◌++◌, map, drop, option_map}
use Rattle.serde_json.specs.View.{view}
use Rattle.cl_labelling.specs.Json.{each}
use Rattle.guard_rules.specs.Text.{field_in}
use Rattle.guard_rules.proofs.text.each_field.Given as goal

abbrev pub invariant-loop-part : goal.invariant-loop-part
invariant-loop-part l = option_map (λ ys. l.found ++ ys) (each field_in (map view (drop l.part-index l.parts))) ≡ each field_in (map view l.parts)
