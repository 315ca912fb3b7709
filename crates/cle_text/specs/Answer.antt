-- Why a text is no definition.
use Rattle.std.specs.Prelude.{◌≡◌, ℕ, List, Option, Some, None, Result, Ok, Err}
use Rattle.serde_json.specs.Data.{Data}
use Rattle.serde_json.specs.View.{view}
use Rattle.serde_json.specs.declared.value.Value.{Value}
use Rattle.cl_labelling.specs.declared.draft.Draft.{Draft}
use Rattle.cl_labelling.specs.Json.{json_of}
use Rattle.cl_labelling.specs.Text.{draft_of}
use Rattle.cle_text.specs.declared.definition.TextStop.{TextStop}
use Rattle.cle_text.specs.declared.definition.TextStop.TheVariants.{NotJson, Misshapen, NoMemory}

-- what a stop says of a text
unfoldable pub Stops : TextStop → List ℕ → Type 0
Stops NotJson text = json_of text ≡ None
Stops Misshapen text = (d : Data) × (json_of text ≡ Some d) × (draft_of d ≡ None)
Stops NoMemory text = Unit {0}

-- a value that was read, or why none was
unfoldable pub JsonIs : Result Value TextStop → Option Data → Type 0
JsonIs (Ok v) read = read ≡ Some (view v)
JsonIs (Err NotJson) read = read ≡ None
JsonIs (Err Misshapen) read = ⊥
JsonIs (Err NoMemory) read = Unit {0}

-- what a stop says of the definition in a value
abbrev pub ShapeStops : TextStop → Option Draft → Type 0
ShapeStops NotJson draft = ⊥
ShapeStops Misshapen draft = draft ≡ None
ShapeStops NoMemory draft = Unit {0}
