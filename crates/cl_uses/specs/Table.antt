-- How the table keeps the variables that are known.
use Rattle.std.specs.Prelude.{◌≡◌, ℕ, List, [], ◌∷◌, map, reverse, length, Option, Some, None, if◌then◌else◌, bytes_eq}
use Rattle.cl_tree.specs.Words.{Word}
use Rattle.cl_levels.specs.Uses.{Known, known}
use Rattle.cl_scope.specs.declared.latest.Latest.{Latest}
use Rattle.cl_scope.specs.Table.{place_at}
use Rattle.cl_uses.specs.declared.table.Slot.{Slot}

abbrev pub known_of : Slot → Known
known_of s = known s.name.now s.variable

-- the variables of slots, of which the innermost is the last
unfoldable pub known_in : List Slot → List Known
known_in slots = map known_of (reverse slots)

-- the place of a name's innermost variable, counted from the outermost one
unfoldable pub place_in : List Known → Word → Option ℕ
place_in [] name = None
place_in (k ∷ ks) name = if bytes_eq k.name name then Some (length ks) else place_in ks name

-- Each slot, from the last on, knows the place that its name had before.
unfoldable pub Hides : List Slot → Type 0
Hides [] = Unit {0}
Hides (s ∷ slots) = (s.hidden ≡ place_in (map known_of slots) s.name.now) × Hides slots

pub record IsKept (slots : List Slot) (latest : Latest) : Type 0 where
  pub places : (name : Word) → place_at latest name ≡ place_in (known_in slots) name
  pub hides : Hides (reverse slots)
