-- How the words of a line are written.
use Rattle.std.specs.Prelude.{◌≡◌, ◌⊎◌, List, [], ◌∷◌, ◌++◌}
use Rattle.cl_words.specs.Settings.{Word, Setting}

-- an option with its value is written as `--x=V`, or as `--x` and `V`
abbrev pub IsWritten : Setting → List Word → Type 0
IsWritten setting words =
    (words ≡ (setting.name ++ (61 ∷ setting.value)) ∷ []) ⊎ (words ≡ setting.name ∷ setting.value ∷ [])

-- the options with their values stand one after another, and the other words behind them
abbrev pub IsLine : List Setting → List Word → List Word → Type 0
IsLine [] others words = words ≡ others
IsLine (first ∷ rest) others words =
    (front : List Word) × (back : List Word) × (words ≡ front ++ back) × IsWritten first front × IsLine rest others back
