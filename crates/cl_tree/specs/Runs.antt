-- The terminals of tokens: each longest run of type words is one terminal, and each other token is one.
use Rattle.std.specs.Prelude.{ℕ, List, [], ◌∷◌, ◌++◌, Bool, true, false, if◌then◌else◌}
use Rattle.cl_tree.specs.declared.token.Lexeme.{Lexeme}
use Rattle.cl_tree.specs.declared.token.Lexeme.TheVariants as lexeme
use Rattle.cl_tree.specs.declared.token.Token.{Token}
use Rattle.cl_tree.specs.declared.grammar.Sign.{Sign}
use Rattle.cl_tree.specs.declared.grammar.Sign.TheVariants as sign
use Rattle.cl_tree.specs.declared.grammar.Terminal.{Terminal}
use Rattle.cl_tree.specs.Words.{Word, is_type_word, spelled_type, spelled_word}

abbrev pub is_type : Lexeme → Bool
is_type (lexeme.Word word) = is_type_word word
is_type _ = false

abbrev pub word_of : Lexeme → Word
word_of (lexeme.Word word) = word
word_of _ = []

-- the type words that stand first, each behind a space
unfoldable pub more_words : List Token → Word
more_words [] = []
more_words (t ∷ ts) = if is_type t.what then 32 ∷ word_of t.what ++ more_words ts else []

-- a token that is no type word
abbrev pub single : Lexeme → Sign
single (lexeme.Word word) = spelled_word word
single (lexeme.Integer value kind) = sign.Integer value kind
single lexeme.Floating = sign.Floating
single (lexeme.Letter byte) = sign.Letter byte
single (lexeme.Text bytes) = sign.Text bytes
single (lexeme.Mark mark) = sign.Mark mark
single (lexeme.Cle pragma) = sign.Cle pragma

abbrev pub terminal : ℕ → Sign → Terminal
terminal line what = record { line = line; what = what }

-- `within`: the token before is a type word, and so its run has its terminal
unfoldable pub terminals_from : Bool → List Token → List Terminal
terminals_from within [] = []
terminals_from within (t ∷ ts) =
    if is_type t.what
    then (if within then terminals_from true ts else terminal t.line (spelled_type (word_of t.what ++ more_words ts)) ∷ terminals_from true ts)
    else terminal t.line (single t.what) ∷ terminals_from false ts

unfoldable pub terminals : List Token → List Terminal
terminals tokens = terminals_from false tokens
