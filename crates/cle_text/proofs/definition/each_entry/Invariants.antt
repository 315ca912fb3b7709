use Rattle.std.proofs.Common.{◌≡◌, ◌++◌, map, drop, option_map}
use Rattle.serde_json.specs.View.{view}
use Rattle.cl_labelling.specs.Text.{entry_of}
use Rattle.cl_labelling.specs.Json.{each}
use Rattle.cle_text.proofs.definition.each_entry.Given as goal

abbrev pub invariant-loop-part : goal.invariant-loop-part
invariant-loop-part l = option_map (λ ys. l.found ++ ys) (each (entry_of l.on_function) (map view (drop l.part-index l.parts))) ≡ each (entry_of l.on_function) (map view l.parts)
