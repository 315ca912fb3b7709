-- The rules that a source can fail: their numbers, and the texts that say what fails.
use Rattle.std.specs.Prelude.{ℕ, List, [], ◌∷◌, codes, nat_eq, if◌then◌else◌}

pub record Row : Type 0 where
  pub number : ℕ
  pub text : List ℕ

abbrev pub row : ℕ → List ℕ → Row
row number text = record { number = number; text = text }

abbrev pub rules : List Row
rules =
    row 1 (codes "source too long")
    ∷ row 2 (codes "byte not allowed")
    ∷ row 3 (codes "no token")
    ∷ row 4 (codes "unfinished piece")
    ∷ row 5 (codes "unsupported directive")
    ∷ row 6 (codes "no reading")
    ∷ row 7 (codes "bad literal")
    ∷ row 8 (codes "pointer")
    ∷ row 9 (codes "floating type")
    ∷ row 10 (codes "not JSON")
    ∷ row 11 (codes "wrong shape")
    ∷ row 12 (codes "label defined twice")
    ∷ row 13 (codes "unknown label")
    ∷ row 14 (codes "bad region")
    ∷ row 15 (codes "two labels")
    ∷ row 16 (codes "wrong kind of label")
    ∷ row 17 (codes "taints do not fit")
    ∷ row 18 (codes "unknown name")
    ∷ row 19 (codes "declared twice")
    ∷ row 20 (codes "wrong type")
    ∷ row 21 (codes "too large")
    ∷ row 22 (codes "no main or no level")
    ∷ row 23 (codes "limit passed")
    ∷ row 24 (codes "two levels")
    ∷ row 25 (codes "foreign global")
    ∷ row 26 (codes "no cdf entry")
    ∷ row 27 (codes "wrong direction")
    ∷ row 28 (codes "cycle of levels")
    ∷ row 29 (codes "array aliased")
    ∷ row 30 (codes "payload too wide")
    ∷ row 31 (codes "label on argument")
    ∷ row 32 (codes "label on store")
    ∷ row 33 (codes "label in body")
    ∷ row 34 (codes "label on output")
    ∷ row 35 (codes "label not shareable")
    ∷ []

-- what a table has first under a number; nothing where it has none
abbrev pub text_in : List Row → ℕ → List ℕ
text_in [] number = []
text_in (row ∷ rows) number = if nat_eq row.number number then row.text else text_in rows number

unfoldable pub rule_text : ℕ → List ℕ
rule_text = text_in rules
