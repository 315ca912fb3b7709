-- The parts of a JSON value, where it has them in the kinds that are asked for.
use Rattle.std.specs.Prelude.{ℕ, ℤ, List, [], ◌∷◌, Option, Some, None, option_map, option_and_then, if◌then◌else◌}
use Rattle.std.specs.Str.{is_utf8}
use Rattle.serde_json.specs.Data.{Data, Items, no_items, item}
use Rattle.serde_json.specs.Read.{read}
use Rattle.serde_json.specs.Find.{get, as_str, as_array, as_number, as_integer}
use Rattle.cl_tree.specs.Words.{Word}

-- The value that bytes are read as (RFC 8259); bytes that are no UTF-8 have no reading.
unfoldable pub json_of : List ℕ → Option Data
json_of text = if is_utf8 text then read text else None

abbrev pub listed : Items → List Data
listed no_items = []
listed (item d ds) = d ∷ listed ds

-- all of what a list has, where each has it
unfoldable pub each : {A B : Type 0} → (A → Option B) → List A → Option (List B)
each f [] = Some []
each f (x ∷ xs) = option_and_then (λ y. option_map (λ ys. y ∷ ys) (each f xs)) (f x)

-- a list of texts
unfoldable pub texts : Data → Option (List Word)
texts d = option_and_then (λ items. each as_str (listed items)) (as_array d)

-- a text under a key
unfoldable pub text_under : Word → Data → Option Word
text_under key d = option_and_then as_str (get key d)

-- A whole number under a key: one that is read as an integer of 64 bits, signed or unsigned.
unfoldable pub integer_under : Word → Data → Option ℤ
integer_under key d = option_and_then as_integer (option_and_then as_number (get key d))
