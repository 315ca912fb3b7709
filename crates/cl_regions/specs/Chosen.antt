-- The labels of functions, as the declarations so far give them.
use Rattle.std.specs.Prelude.{◌≡◌, ℕ, Bool, true, false, List, [], ◌∷◌, drop, Option, Some, None, option_map, bytes_eq, if◌then◌else◌}
use Rattle.std.specs.List.{list_all}
use Rattle.std.specs.BTreeMap.{get_by_text}
use Rattle.cl_tree.specs.Words.{Word}
use Rattle.cl_labelling.specs.Regions.{Subject, objects, function, Marked}
use Rattle.cl_labelling.specs.Items.{agrees, two_labels}
use Rattle.cl_regions.specs.Few.{Few, none, one, many}
use Rattle.cl_regions.specs.declared.twice.Chosen.{Chosen}

-- the label that is noted for a function
abbrev pub chosen_at : Chosen → Word → Option Word
chosen_at chosen name = option_map (λ n. n.now) (get_by_text chosen.labels name)

abbrev pub fits : Option Word → Word → Bool
fits None label = true
fits (Some held) label = bytes_eq held label

-- An item has no second label, where its function has the label that is known of it.
abbrev pub one_by : Few → Subject → (Word → Option Word) → Bool
one_by none subject held = true
one_by (one label) (objects count) held = true
one_by (one label) (function name) held = fits (held name) label
one_by many subject held = false

-- the labels of functions behind an item
abbrev pub chosen_after : Few → Subject → (Word → Option Word) → Word → Option Word
chosen_after (one label) (function name) held q = if bytes_eq name q then Some label else held q
chosen_after _ subject held q = held q

-- ---- the label of a function, by its latest declaration that has one

abbrev pub known_by : Word → Subject → List Word → Option Word → Option Word
known_by name (function other) (w ∷ ws) rest = if bytes_eq other name then Some w else rest
known_by name _ _ rest = rest

unfoldable pub known : List Marked → Word → Option Word
known [] name = None
known (m ∷ ms) name = known_by name m.subject m.marks (known ms name)

abbrev pub first_fits : Option Word → List Word → Bool
first_fits held [] = true
first_fits held (w ∷ ws) = fits held w

-- None of the items so far has two labels, and what is noted of them is their functions' labels.
pub record AreOne (chosen : Chosen) (all : List Marked) (i : ℕ) : Type 0 where
  pub before : List Marked
  pub each : (name : Word) → chosen_at chosen name ≡ known before name
  pub agree : (name : Word) (ws : List Word) → list_all (agrees name ws) before ≡ first_fits (known before name) ws
  pub rest : two_labels before (drop i all) ≡ two_labels [] all
