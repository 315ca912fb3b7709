-- The integers under a path with their kinds, and what may be kept of a path.
use Rattle.std.specs.Prelude.{◌≡◌, ℕ, List, map, Option, Some, None, slice_index_or}
use Rattle.cl_tree.specs.declared.kinds.IntKind.{IntKind}
use Rattle.cl_tree.specs.declared.kinds.IntKind.TheVariants.{I32}
use Rattle.cl_tree.specs.Words.{Word}
use Rattle.cl_mean.specs.declared.checked.Checked.{Checked}
use Rattle.cl_mean.specs.Shape.{Shape, kinds_of, under}
use Rattle.guard_rules.specs.declared.found.Found.{Found}
use Rattle.guard_places.specs.declared.places.Place.{Place}
use Rattle.guard_rules.specs.Policy.{payload}

abbrev pub place_at : List IntKind → ℕ → Place
place_at kinds at = record { at = at; kind = slice_index_or kinds at I32 }

-- the integers under a path
abbrev pub places_of : Shape → List Word → List Place
places_of s path = map (place_at (kinds_of s)) (under s path 0)

-- what is kept of a path is what lies under it
abbrev pub IsRight : Checked → Option Found → Type 0
IsRight checked None = Unit {0}
IsRight checked (Some f) = f.places.items ≡ places_of (payload checked f.sent.function f.sent.reply) f.path.now
