-- How the table keeps the names that are known.
use Rattle.std.specs.Prelude.{◌≡◌, ℕ, List, [], ◌∷◌, map, reverse, length, Option, Some, None, if◌then◌else◌, bytes_eq}
use Rattle.cl_tree.specs.Words.{Word}
use Rattle.cl_scope.specs.declared.latest.Latest.{Latest}
use Rattle.cl_scope.specs.Table.{place_at}
use Rattle.code_forms.specs.declared.storage.Storage.{Storage}
use Rattle.code_forms.specs.Layout as layout
use Rattle.code_tables.specs.declared.names.Meant.{Meant}
use Rattle.code_tables.specs.declared.names.Slot.{Slot}
use Rattle.code_tables.specs.Types.{Kept, kept, shape_by, shape_in}

-- what a name means
pub record Meaning : Type 0 where
  pub ctype : Kept
  pub storage : Storage

pub record Named : Type 0 where
  pub name : Word
  pub meant : Meaning

abbrev pub meaning_in : Meant → Meaning
meaning_in m = record { ctype = kept m.ctype; storage = m.storage }

abbrev pub named : Word → Meant → Named
named name m = record { name = name; meant = meaning_in m }

-- of the names that are known, the innermost first
unfoldable pub named_by : List Named → Word → Option Meaning
named_by [] name = None
named_by (k ∷ ks) name = if bytes_eq k.name name then Some k.meant else named_by ks name

-- the same as the definitions have them
abbrev pub bound_in : Named → layout.Bound
bound_in k = layout.bound k.name (shape_by k.meant.ctype) k.meant.storage

abbrev pub bounds : List Named → List layout.Bound
bounds ks = map bound_in ks

abbrev pub meant_in : Meant → layout.Meant
meant_in m = record { shape = shape_in m.ctype; storage = m.storage }

abbrev pub meant_of : Meaning → layout.Meant
meant_of m = record { shape = shape_by m.ctype; storage = m.storage }

abbrev pub known_of : Slot → Named
known_of s = named s.name.now s.meant

-- the names of slots, of which the innermost is the last
unfoldable pub known_in : List Slot → List Named
known_in slots = map known_of (reverse slots)

-- the place of a name's innermost meaning, counted from the outermost one
unfoldable pub place_in : List Named → Word → Option ℕ
place_in [] name = None
place_in (k ∷ ks) name = if bytes_eq k.name name then Some (length ks) else place_in ks name

-- Each slot, from the last on, knows the place that its name had before.
unfoldable pub Hides : List Slot → Type 0
Hides [] = Unit {0}
Hides (s ∷ slots) = (s.hidden ≡ place_in (map known_of slots) s.name.now) × Hides slots

pub record IsKept (slots : List Slot) (latest : Latest) : Type 0 where
  pub places : (name : Word) → place_at latest name ≡ place_in (known_in slots) name
  pub hides : Hides (reverse slots)
