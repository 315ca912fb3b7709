-- Laws of the tokens of a source.
use Rattle.std.specs.Prelude.{◌≡◌, ℕ, ◌<◌, ◌≤◌, List, [], ◌∷◌, length, true}
use Rattle.std.specs.List.{list_all}
use Rattle.cl_tree.specs.declared.token.Token.{Token}
use Rattle.cl_tree.specs.Words.{comes}
use Rattle.cl_tree.specs.Runs.{terminals}
use Rattle.cl_tree.specs.Tokens.{AreTokens}

-- Each word, literal, string and pragma of a source's tokens is one that a source can bring.
abbrev pub BringsOnly : List ℕ → Type 0
BringsOnly source = (ts : List Token) → AreTokens source ts → list_all (λ p. comes p.what) (terminals ts) ≡ true

-- Tokens stand in the order of the source, each of one byte or more, and their lines do not fall: the first at `from` or later and in `line` or below, the last before `end`.
abbrev pub InOrder : ℕ → ℕ → ℕ → List Token → Type 0
InOrder from line end [] = from ≤ end
InOrder from line end (t ∷ ts) = (from ≤ t.start) × (t.start < t.end) × (line ≤ t.line) × InOrder t.end t.line end ts

abbrev pub AreInOrder : List ℕ → List Token → Type 0
AreInOrder source ts = InOrder 0 1 (length source) ts
