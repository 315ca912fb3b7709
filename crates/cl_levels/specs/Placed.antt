-- Rules whose places are known by a relation: each place has a position, by which the places are in order, and a line.
use Rattle.std.specs.Prelude.{◌≡◌, ◌⊎◌, ◌≤◌, ℕ, List, [], ◌∷◌, Some, slice_get}
use Rattle.cl_typing.specs.Rules.{Lines, Rule}

abbrev pub Places : Type 1
Places = ℕ → ℕ → Type 0

-- the places of a list, in its order
abbrev pub listed : Lines → Places
listed lines position line = slice_get lines position ≡ Some line

pub record PlacedRule : Type 1 where
  pub number : ℕ
  pub Fails : Places

abbrev pub placed : ℕ → Places → PlacedRule
placed number Fails = record { number = number; Fails = Fails }

-- no place is one where it fails
abbrev pub Holds : Places → Type 0
Holds Fails = (position line : ℕ) → Fails position line → ⊥

-- the line of the first place
abbrev pub IsFirst : Places → ℕ → Type 0
IsFirst Fails line = (position : ℕ) × (Fails position line × ((other at : ℕ) → Fails other at → position ≤ other))

abbrev pub AllPlacedHold : List PlacedRule → Type 0
AllPlacedHold [] = Unit {0}
AllPlacedHold (r ∷ rs) = Holds r.Fails × AllPlacedHold rs

-- The first rule that fails has this number, and its first place is at this line.
abbrev pub FirstPlacedFails : List PlacedRule → ℕ → ℕ → Type 0
FirstPlacedFails [] number line = ⊥
FirstPlacedFails (r ∷ rs) number line =
    ((number ≡ r.number) × IsFirst r.Fails line) ⊎ (Holds r.Fails × FirstPlacedFails rs number line)

-- a rule that has a list of places
abbrev pub as_placed : Rule → PlacedRule
as_placed r = placed r.number (listed r.places)
