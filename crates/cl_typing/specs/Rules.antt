-- Rules, each by the lines of the places where it fails, in the order of the source.
use Rattle.std.specs.Prelude.{◌≡◌, ◌⊎◌, ℕ, List, [], ◌∷◌, Bool, true, false, Option, Some, None}

abbrev pub Lines : Type 0
Lines = List ℕ

-- A rule fails at a line, unless the condition holds.
abbrev pub unless : Bool → ℕ → Lines
unless true line = []
unless false line = line ∷ []

-- what a part gives that may be absent
abbrev pub optional : Option Lines → Lines
optional None = []
optional (Some lines) = lines

-- a rule by its number and the places where it fails
pub record Rule : Type 0 where
  pub number : ℕ
  pub places : Lines

abbrev pub rule : ℕ → Lines → Rule
rule number places = record { number = number; places = places }

-- no rule fails
abbrev pub AllHold : List Rule → Type 0
AllHold [] = Unit {0}
AllHold (r ∷ rs) = (r.places ≡ []) × AllHold rs

-- the places begin with this line
abbrev pub Begins : Lines → ℕ → Type 0
Begins places line = (rest : Lines) × (places ≡ line ∷ rest)

-- The first rule that fails has this number, and its first place is at this line.
abbrev pub FirstFails : List Rule → ℕ → ℕ → Type 0
FirstFails [] number line = ⊥
FirstFails (r ∷ rs) number line =
    ((number ≡ r.number) × Begins r.places line) ⊎ ((r.places ≡ []) × FirstFails rs number line)
