-- How the words of a command line are cut: options with their values, and then the other words.
use Rattle.std.specs.Prelude.{◌≡◌, ◌<◌, ℕ, List, [], ◌∷◌, length, Option, Some, None, is_none, Bool, true, false, not, ◌&&◌, ◌==◌, codes, bytes_eq, if◌then◌else◌}
use Rattle.std.specs.List.{list_any, before_first, after_first}

abbrev pub Word : Type 0
Word = List ℕ

-- an option with its value
pub record Setting : Type 0 where
  pub name : Word
  pub value : Word

abbrev pub is_empty : Word → Bool
is_empty [] = true
is_empty (b ∷ bs) = false

-- a word that begins with `-` is an option
abbrev pub is_option : Word → Bool
is_option [] = false
is_option (b ∷ bs) = b == 45

-- a word that isn't empty and is no option can be a value, or stand behind the options
abbrev pub is_argument : Word → Bool
is_argument word = not (is_empty word) && not (is_option word)

abbrev pub is_equals : ℕ → Bool
is_equals b = b == 61

-- an option with its value in one word, `--x=V`: it is cut at its first `=`
abbrev pub is_joined : Word → Bool
is_joined word = is_option word && list_any is_equals word

abbrev pub cut : Word → Setting
cut word = record { name = before_first is_equals word; value = after_first is_equals word }

-- the options at the head of the words with their values, each as `--x V` or as `--x=V`
abbrev pub settings : List Word → List Setting
settings [] = []
settings (word ∷ []) = if is_joined word then cut word ∷ [] else []
settings (word ∷ next ∷ words) =
    if is_joined word then cut word ∷ settings (next ∷ words)
    else if is_option word then record { name = word; value = next } ∷ settings words
    else []

-- the words behind them
abbrev pub others : List Word → List Word
others [] = []
others (word ∷ []) = if is_joined word then [] else word ∷ []
others (word ∷ next ∷ words) =
    if is_joined word then others (next ∷ words)
    else if is_option word then others words
    else word ∷ next ∷ words

-- the value of an option, where it is set
abbrev pub value_of : Word → List Setting → Option Word
value_of name [] = None
value_of name (first ∷ rest) = if bytes_eq first.name name then Some first.value else value_of name rest

-- the options that are known
abbrev pub options : List Word
options = codes "--journal" ∷ []

abbrev pub is_known : Word → Bool
is_known name = list_any (bytes_eq name) options

-- each option is known and has a value, and none is set twice
abbrev pub are_sound : List Setting → Bool
are_sound [] = true
are_sound (first ∷ rest) =
    is_known first.name && (is_argument first.value && (is_none (value_of first.name rest) && are_sound rest))

-- the words begin with a setting
pub record Begins (words : List Word) (name value : Word) (rest : List Word) : Type 0 where
  pub sets : settings words ≡ record { name = name; value = value } ∷ settings rest
  pub leaves : others words ≡ others rest
  pub shorter : length rest < length words

-- the words set nothing
pub record SetsNothing (words : List Word) : Type 0 where
  pub sets : settings words ≡ []
  pub leaves : others words ≡ words
