-- Sources of a line or two, and their tokens.
use Rattle.std.specs.Prelude.{ℕ, List, [], ◌∷◌, codes}
use Rattle.cl_tree.specs.declared.kinds.IntKind.TheVariants.{I32}
use Rattle.cl_tree.specs.declared.token.Mark.TheVariants.{Plus, PlusPlus}
use Rattle.cl_tree.specs.declared.token.Pragma.TheVariants.{Def}
use Rattle.cl_tree.specs.declared.token.Token.{Token}
use Rattle.cl_tree.specs.declared.token.Lexeme.{Lexeme}
use Rattle.cl_tree.specs.declared.token.Lexeme.TheVariants as lexeme

abbrev token : ℕ → ℕ → ℕ → Lexeme → Token
token line start end what = record { line = line; start = start; end = end; what = what }

-- a name, two punctuators and a name in four bytes
abbrev pub sum : List Token
sum = token 1 0 1 (lexeme.Word (codes "a")) ∷ token 1 1 3 (lexeme.Mark PlusPlus) ∷ token 1 3 4 (lexeme.Mark Plus) ∷ token 1 4 5 (lexeme.Word (codes "b")) ∷ []

abbrev pub literals : List Token
literals = token 1 0 4 (lexeme.Integer 31 I32) ∷ token 1 5 11 lexeme.Floating ∷ token 1 12 18 (lexeme.Letter 255) ∷ []

-- one name, over two lines
abbrev pub over_lines : List Token
over_lines = token 1 0 4 (lexeme.Word (codes "ab")) ∷ []

abbrev pub apart : List Token
apart = token 1 0 1 (lexeme.Word (codes "a")) ∷ token 1 8 9 (lexeme.Word (codes "b")) ∷ []

abbrev pub three : List Token
three = token 2 12 13 (lexeme.Integer 3 I32) ∷ []

abbrev pub one_string : List Token
one_string = token 1 0 7 (lexeme.Text (codes "ab")) ∷ []

abbrev pub label : List Token
label = token 1 0 22 (lexeme.Cle (Def (codes "P") (codes "{ }"))) ∷ []
