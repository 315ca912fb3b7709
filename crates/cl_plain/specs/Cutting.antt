-- Small runs of terminals, all on one line.
use Rattle.std.specs.Prelude.{ℕ, List, [], ◌∷◌}
use Rattle.cl_tree.specs.declared.kinds.IntKind.TheVariants.{I32}
use Rattle.cl_tree.specs.declared.token.Mark.TheVariants as mark
use Rattle.cl_tree.specs.declared.token.Pragma.TheVariants.{Next}
use Rattle.cl_tree.specs.declared.grammar.Keyword.TheVariants as key
use Rattle.cl_tree.specs.declared.grammar.Sign.{Sign}
use Rattle.cl_tree.specs.declared.grammar.Sign.TheVariants as sign
use Rattle.cl_tree.specs.declared.grammar.Terminal.{Terminal}

abbrev pub on : ℕ → Sign → Terminal
on line what = record { line = line; what = what }

-- a name of one letter
abbrev pub name : ℕ → ℕ → Terminal
name line letter = on line (sign.Name (letter ∷ []))

abbrev pub int : ℕ → Terminal
int line = on line (sign.Kind I32)

abbrev pub one : ℕ → Terminal
one line = on line (sign.Integer 1 I32)

-- #pragma cle P
abbrev pub pragma : ℕ → Terminal
pragma line = on line (sign.Cle (Next (80 ∷ [])))

abbrev pub semicolon : ℕ → Terminal
semicolon line = on line (sign.Mark mark.Semicolon)

abbrev pub opening : ℕ → Terminal
opening line = on line (sign.Mark mark.OpenParen)

abbrev pub closing : ℕ → Terminal
closing line = on line (sign.Mark mark.CloseParen)

abbrev pub begin : ℕ → Terminal
begin line = on line (sign.Mark mark.OpenBrace)

abbrev pub end : ℕ → Terminal
end line = on line (sign.Mark mark.CloseBrace)

-- int a ;
abbrev pub variable : ℕ → ℕ → List Terminal
variable line letter = int line ∷ name line letter ∷ semicolon line ∷ []

-- int f ( void )
abbrev pub head : ℕ → List Terminal → List Terminal
head line rest = int line ∷ name line 102 ∷ opening line ∷ on line (sign.Key key.Void) ∷ closing line ∷ rest

-- struct s { int a ; } ;
abbrev pub structure : ℕ → List Terminal
structure line = on line (sign.Key key.Struct) ∷ name line 115 ∷ begin line ∷ int line ∷ name line 97 ∷ semicolon line ∷ end line ∷ semicolon line ∷ []

-- int a = { 1 } ;
abbrev pub initialised : ℕ → List Terminal
initialised line = int line ∷ name line 97 ∷ on line (sign.Mark mark.Assign) ∷ begin line ∷ one line ∷ end line ∷ semicolon line ∷ []
