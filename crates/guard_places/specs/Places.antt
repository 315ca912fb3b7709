-- The integers that are chosen, by their places.
use Rattle.std.specs.Prelude.{ℕ, suc, List, [], ◌∷◌, if◌then◌else◌}
use Rattle.rpc_codec.specs.declared.leaves.Leaf.{Leaf}
use Rattle.guard_places.specs.declared.places.Place.{Place}

-- the chosen ones of a list, counted from a number on
abbrev pub chosen_places : ℕ → List Leaf → List Place
chosen_places at [] = []
chosen_places at (l ∷ ls) = if l.chosen then record { at = at; kind = l.kind } ∷ chosen_places (suc at) ls else chosen_places (suc at) ls
