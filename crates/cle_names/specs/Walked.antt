-- The rules of definitions, pragma by pragma.
use Rattle.std.specs.Prelude.{ℕ, suc, not, List, [], ◌∷◌, ◌++◌, Option, Some, None, option_map, bytes_eq, if◌then◌else◌}
use Rattle.std.specs.List.{flat_map}
use Rattle.cl_tree.specs.declared.token.Pragma.{Pragma}
use Rattle.cl_tree.specs.declared.token.Pragma.TheVariants as pragma
use Rattle.cl_tree.specs.Words.{Word}
use Rattle.cl_typing.specs.Rules.{Lines, unless}
use Rattle.cl_labelling.specs.Text.{draft_in}
use Rattle.cl_labelling.specs.Names.{has_word, is_shaped, levels_after}
use Rattle.cl_labelling.specs.Pragmas.{Placed, Definition, definition_at}
use Rattle.cle_names.specs.Reading.{has_json, draft_at}

-- the definitions among pragmas
abbrev pub definitions_in : List Placed → List Definition
definitions_in ps = flat_map definition_at ps

unfoldable pub json_places : List Placed → Lines
json_places ps = flat_map (λ p. unless (has_json p.pragma) p.line) ps

-- ---- levels

-- what a pragma adds to the levels
abbrev pub levels_past : List Word → Pragma → List Word
levels_past levels p = levels_after levels (draft_at p)

abbrev pub shape_at : List Word → Pragma → ℕ → Lines
shape_at levels (pragma.Def name text) line = unless (is_shaped levels (draft_in text)) line
shape_at levels _ line = []

unfoldable pub shape_places : List Word → List Placed → Lines
shape_places levels [] = []
shape_places levels (p ∷ ps) = shape_at levels p.pragma p.line ++ shape_places (levels_past levels p.pragma) ps

unfoldable pub levels_behind : List Word → List Placed → List Word
levels_behind levels [] = levels
levels_behind levels (p ∷ ps) = levels_behind (levels_past levels p.pragma) ps

-- ---- labels

-- the labels, with one that a pragma defines
abbrev pub labels_past : List Word → Pragma → List Word
labels_past labels (pragma.Def name text) = labels ++ name ∷ []
labels_past labels _ = labels

abbrev pub twice_at : List Word → Pragma → ℕ → Lines
twice_at labels (pragma.Def name text) line = unless (not (has_word labels name)) line
twice_at labels _ line = []

unfoldable pub twice_places : List Word → List Placed → Lines
twice_places labels [] = []
twice_places labels (p ∷ ps) = twice_at labels p.pragma p.line ++ twice_places (labels_past labels p.pragma) ps

unfoldable pub labels_behind : List Word → List Placed → List Word
labels_behind labels [] = labels
labels_behind labels (p ∷ ps) = labels_behind (labels_past labels p.pragma) ps

-- the place of a word in a list, where it is there
unfoldable pub place_of : List Word → Word → Option ℕ
place_of [] w = None
place_of (v ∷ vs) w = if bytes_eq v w then Some 0 else option_map suc (place_of vs w)
