-- The tokens of a source, and the first place where it breaks one of the lexical rules.
use Rattle.std.specs.Prelude.{◌≡◌, ℕ, ◌+◌, ◌-◌, ◌<◌, ◌≤◌, Bool, true, false, not, ◌&&◌, ◌==◌, List, [], ◌∷◌, ◌++◌, Option, Some, None, length, take, slice_index, slice_index_or, bytes_eq, ◌⊎◌, if◌then◌else◌}
use Rattle.std.specs.List.{position, prefix_len}
use Rattle.std.specs.Map.{update}
use Rattle.cl_tree.specs.Joins.{bytes_of, places_of}
use Rattle.cl_tree.specs.Letters.{is_bad, is_newline}
use Rattle.cl_tree.specs.Pieces.{is_piece, opening, mark}
use Rattle.cl_tree.specs.Literals.{integer, is_floating, letter, inside, unescaped}
use Rattle.cl_tree.specs.Directives.{allowed, directive}
use Rattle.cl_tree.specs.declared.token.Token.{Token}
use Rattle.cl_tree.specs.declared.token.Lexeme.{Lexeme}
use Rattle.cl_tree.specs.declared.token.Lexeme.TheVariants.{Word, Integer, Floating, Text, Mark, Cle}
use Rattle.cl_tree.specs.declared.token.Lexeme.TheVariants as lexeme
use Rattle.cl_tree.specs.declared.token.Mark as punctuator
use Rattle.cl_tree.specs.declared.pieces.Run.TheVariants.{Letters, Digits, Line, Directive}
use Rattle.cl_tree.specs.declared.pieces.Closed.{Closed}
use Rattle.cl_tree.specs.declared.pieces.Closed.TheVariants.{Comment, Quoted, Letter}
use Rattle.cl_tree.specs.declared.pieces.Opening.{Opening}
use Rattle.cl_tree.specs.declared.pieces.Opening.TheVariants.{Runs, Closes, Space, Punct, Other}
use Rattle.cl_tree.specs.declared.pieces.Literal.{Literal}
use Rattle.cl_tree.specs.declared.pieces.Literal.TheVariants.{Number, Byte}
use Rattle.cl_tree.specs.declared.pieces.LiteralValue.{LiteralValue}
use Rattle.cl_tree.specs.declared.pieces.LiteralValue.TheVariants.{Wrong, Unfit, Holds}
use Rattle.cl_tree.specs.declared.pieces.PieceMeaning.{PieceMeaning}
use Rattle.cl_tree.specs.declared.pieces.PieceMeaning.TheVariants.{Blank, Bad, Is, Defines}
use Rattle.cl_tree.specs.declared.pieces.Place.{Place}
use Rattle.cl_tree.specs.declared.pieces.Rule.{Rule}
use Rattle.cl_tree.specs.declared.pieces.Rule.TheVariants.{E02, E03, E04, E05, E07}

-- Which piece stands at the start of a text. In all of this, `fresh` is whether only spaces, tabs and CR stand before it in its line.

-- a piece of this class has to be closed
abbrev pub must_close : Opening → Bool
must_close (Closes k) = true
must_close (Runs r) = false
must_close Space = false
must_close Punct = false
must_close Other = false

-- no front of more than n bytes is a piece
abbrev pub NoneBeyond : Bool → ℕ → List ℕ → Type 0
NoneBeyond fresh n text = (m : ℕ) → n < m → m ≤ length text → is_piece fresh (take m text) ≡ false

-- The piece p stands at the start of a text: no longer front is a piece. (What opens as a comment, a string or a character constant is never the one byte that it begins with.)
pub record IsTaken (fresh : Bool) (p text : List ℕ) : Type 0 where
  pub within : length p ≤ length text
  pub front : p ≡ take (length p) text
  pub piece : is_piece fresh p ≡ true
  pub longest : NoneBeyond fresh (length p) text
  pub closed : must_close (opening fresh text) ≡ true → 1 < length p

-- a comment, a string or a character constant stands there and is not closed
pub record IsUnclosed (fresh : Bool) (text : List ℕ) (kind : Closed) : Type 0 where
  pub opens : opening fresh text ≡ Closes kind
  pub none : NoneBeyond fresh 1 text

-- a byte stands there with which no piece begins
pub record IsNothing (fresh : Bool) (text : List ℕ) : Type 0 where
  pub some : 0 < length text
  pub free : must_close (opening fresh text) ≡ false
  pub none : NoneBeyond fresh 0 text

-- What a piece means.

abbrev pub literal_meaning : LiteralValue → PieceMeaning
literal_meaning Wrong = Bad E07 0
literal_meaning Unfit = Bad E07 0
literal_meaning (Holds (Number v k)) = Is (Integer v k)
literal_meaning (Holds (Byte b)) = Is (lexeme.Letter b)

unfoldable pub number_meaning : List ℕ → PieceMeaning
number_meaning p = if is_floating p then Is Floating else literal_meaning (integer p)

abbrev pub string_as : Option (List ℕ) → PieceMeaning
string_as None = Bad E07 0
string_as (Some bytes) = Is (Text bytes)

unfoldable pub string_meaning : List ℕ → PieceMeaning
string_meaning p = string_as (unescaped 0 [] (inside p))

abbrev pub mark_as : Option punctuator.Mark → PieceMeaning
mark_as None = Blank
mark_as (Some m) = Is (Mark m)

abbrev pub meaning_as : Opening → List ℕ → PieceMeaning
meaning_as (Runs Letters) p = Is (Word p)
meaning_as (Runs Digits) p = number_meaning p
meaning_as (Runs Line) p = Blank
meaning_as (Runs Directive) p = directive p
meaning_as (Closes Comment) p = Blank
meaning_as (Closes Quoted) p = allowed p (string_meaning p)
meaning_as (Closes Letter) p = allowed p (literal_meaning (letter p))
meaning_as Space p = Blank
meaning_as Punct p = mark_as (mark p)
meaning_as Other p = Blank

unfoldable pub piece_meaning : Bool → List ℕ → PieceMeaning
piece_meaning fresh p = meaning_as (opening fresh p) p

-- What is known before a piece: whether it stands first in its line, and what the names mean that are defined.

abbrev pub Definitions : Type 0
Definitions = List ℕ → Option Literal

pub record Before : Type 0 where
  pub fresh : Bool
  pub definitions : Definitions

unfoldable pub at_start : Before
at_start = record { fresh = true; definitions = λ name. None }

-- a newline begins a line, and a space, a tab and CR leave it as it is
abbrev pub fresh_as : Bool → ℕ → Opening → Bool
fresh_as fresh b Space = if is_newline b then true else fresh
fresh_as fresh b (Runs r) = false
fresh_as fresh b (Closes k) = false
fresh_as fresh b Punct = false
fresh_as fresh b Other = false

unfoldable pub fresh_after : Bool → List ℕ → Bool
fresh_after fresh p = fresh_as fresh (slice_index p 0) (opening fresh p)

abbrev pub definitions_after : Definitions → PieceMeaning → Definitions
definitions_after definitions Blank = definitions
definitions_after definitions (Bad rule i) = definitions
definitions_after definitions (Is l) = definitions
definitions_after definitions (Defines name None at) = definitions
definitions_after definitions (Defines name (Some l) at) = update bytes_eq definitions name (Some l)

unfoldable pub behind : Before → List ℕ → Before
behind s p = record { fresh = fresh_after s.fresh p; definitions = definitions_after s.definitions (piece_meaning s.fresh p) }

-- The rule that a piece breaks, and at which byte of it. A name that is defined already cannot be defined again.
abbrev pub definition_flaw : Option Literal → Option Literal → ℕ → Option (Rule × ℕ)
definition_flaw (Some old) literal at = Some (E05, 0)
definition_flaw None None at = Some (E07, at)
definition_flaw None (Some l) at = None

abbrev pub flaw_as : Definitions → PieceMeaning → Option (Rule × ℕ)
flaw_as definitions Blank = None
flaw_as definitions (Bad rule i) = Some (rule, i)
flaw_as definitions (Is l) = None
flaw_as definitions (Defines name literal at) = definition_flaw (definitions name) literal at

unfoldable pub flaw : Before → List ℕ → Option (Rule × ℕ)
flaw s p = flaw_as s.definitions (piece_meaning s.fresh p)

-- The pieces ps, none of which breaks a rule, are what a text begins with, up to the rest. s is what is known before them, and last before the rest.
abbrev pub IsCut : Before → List (List ℕ) → List ℕ → Before → List ℕ → Type 0
IsCut s [] text last rest = (s ≡ last) × (text ≡ rest)
IsCut s (p ∷ ps) text last rest = IsTaken s.fresh p text × (flaw s p ≡ None) × (after : List ℕ) × (text ≡ p ++ after) × IsCut (behind s p) ps after last rest

-- Tokens.

abbrev pub place_at : List Place → ℕ → Place
place_at places i = slice_index_or places i (record { line = 0; start = 0; end = 0 })

-- the token of the n bytes from a place on
abbrev pub token : List Place → ℕ → ℕ → Lexeme → Token
token places at n what = record {
  line = (place_at places at).line;
  start = (place_at places at).start;
  end = (place_at places (at + n - 1)).end;
  what = what;
}

abbrev pub meant : Option Literal → List ℕ → Lexeme
meant None name = Word name
meant (Some (Number v k)) name = Integer v k
meant (Some (Byte b)) name = lexeme.Letter b

-- a defined name is replaced by its literal
abbrev pub replaced : Definitions → Lexeme → Lexeme
replaced definitions (Word name) = meant (definitions name) name
replaced definitions (Integer v k) = Integer v k
replaced definitions Floating = Floating
replaced definitions (lexeme.Letter b) = lexeme.Letter b
replaced definitions (Text bytes) = Text bytes
replaced definitions (Mark m) = Mark m
replaced definitions (Cle pragma) = Cle pragma

abbrev pub token_as : Definitions → PieceMeaning → List Place → ℕ → ℕ → List Token
token_as definitions Blank places at n = []
token_as definitions (Bad rule i) places at n = []
token_as definitions (Is what) places at n = token places at n (replaced definitions what) ∷ []
token_as definitions (Defines name literal i) places at n = []

-- the tokens of the pieces from a place on
abbrev pub tokens_from : List Place → Before → ℕ → List (List ℕ) → List Token
tokens_from places s at [] = []
tokens_from places s at (p ∷ ps) = token_as s.definitions (piece_meaning s.fresh p) places at (length p) ++ tokens_from places (behind s p) (at + length p) ps

-- Strings that follow each other are one.

abbrev pub text_of : Lexeme → List ℕ
text_of (Text bytes) = bytes
text_of (Word name) = []
text_of (Integer v k) = []
text_of Floating = []
text_of (lexeme.Letter b) = []
text_of (Mark m) = []
text_of (Cle pragma) = []

abbrev pub is_text : Lexeme → Bool
is_text (Text bytes) = true
is_text (Word name) = false
is_text (Integer v k) = false
is_text Floating = false
is_text (lexeme.Letter b) = false
is_text (Mark m) = false
is_text (Cle pragma) = false

abbrev pub both_text : Lexeme → Lexeme → Bool
both_text u t = is_text u && is_text t

abbrev pub glued : Token → Token → Token
glued u t = record { line = u.line; start = u.start; end = t.end; what = Text (text_of u.what ++ text_of t.what) }

-- a token and those behind it: a string goes on with the strings behind it
abbrev pub joined_behind : Token → List Token → List Token
joined_behind u [] = u ∷ []
joined_behind u (t ∷ ts) = if both_text u.what t.what then joined_behind (glued u t) ts else u ∷ joined_behind t ts

abbrev pub joined : List Token → List Token
joined [] = []
joined (t ∷ ts) = joined_behind t ts

-- These are the tokens of a text whose bytes stand at these places.
pub record IsLexed (text : List ℕ) (places : List Place) (ts : List Token) : Type 0 where
  pub pieces : List (List ℕ)
  pub last : Before
  pub cut : IsCut at_start pieces text last []
  pub tokens : ts ≡ joined (tokens_from places at_start 0 pieces)

-- THE TOKENS OF A SOURCE: without its joins it is a list of pieces, and these are their tokens.
abbrev pub AreTokens : List ℕ → List Token → Type 0
AreTokens source ts = IsLexed (bytes_of source) (places_of source) ts

-- The first failing place.

-- the bytes up to the end of the line
unfoldable pub to_line_end : List ℕ → List ℕ
to_line_end text = take (prefix_len (λ b. not (is_newline b)) text) text

-- An unfinished piece fails at its start; but a string or a character constant has a byte first that is not allowed, up to the end of its line.
abbrev pub unfinished_at : Option ℕ → Rule × ℕ
unfinished_at None = (E04, 0)
unfinished_at (Some i) = (E02, i)

abbrev pub unfinished : Closed → List ℕ → Rule × ℕ
unfinished Comment text = (E04, 0)
unfinished Quoted text = unfinished_at (position is_bad (to_line_end text))
unfinished Letter text = unfinished_at (position is_bad (to_line_end text))

-- a byte with which no piece begins
unfoldable pub strange : List ℕ → Rule × ℕ
strange text = if is_bad (slice_index text 0) then (E02, 0) else (E03, 0)

-- a text has no piece at its start: by this rule it fails, at its i-th byte
abbrev pub IsStuck : Bool → List ℕ → Rule → ℕ → Type 0
IsStuck fresh text rule i =
    ((kind : Closed) × IsUnclosed fresh text kind × (unfinished kind text ≡ (rule, i)))
    ⊎ (IsNothing fresh text × (strange text ≡ (rule, i)))

-- a text fails at once, by this rule, at its i-th byte: no piece stands there, or one that breaks a rule
abbrev pub IsFault : Before → List ℕ → Rule → ℕ → Type 0
IsFault s text rule i = IsStuck s.fresh text rule i ⊎ ((p : List ℕ) × IsTaken s.fresh p text × (flaw s p ≡ Some (rule, i)))

abbrev pub number_of : Rule → ℕ
number_of E02 = 2
number_of E03 = 3
number_of E04 = 4
number_of E05 = 5
number_of E07 = 7

-- The first failing place of a text, whose bytes stand at these places, breaks the rule of this number, and is in this line.
pub record FailsAt (text : List ℕ) (places : List Place) (number line : ℕ) : Type 0 where
  pub pieces : List (List ℕ)
  pub before : Before
  pub rest : List ℕ
  pub rule : Rule
  pub i : ℕ
  pub cut : IsCut at_start pieces text before rest
  pub fault : IsFault before rest rule i
  pub numbered : number ≡ number_of rule
  pub line_is : line ≡ (place_at places (length text - length rest + i)).line

-- THE LEXICAL RULES: the first failing place of a source without its joins.
abbrev pub LexFails : List ℕ → ℕ → ℕ → Type 0
LexFails source number line = FailsAt (bytes_of source) (places_of source) number line

-- A source has one list of tokens or one failure at most.
abbrev pub HasOneAnswer : List ℕ → Type 0
HasOneAnswer source =
    ((ts us : List Token) → AreTokens source ts → AreTokens source us → ts ≡ us)
    × ((ts : List Token) (rule line : ℕ) → AreTokens source ts → LexFails source rule line → ⊥)
    × ((rule line other place : ℕ) → LexFails source rule line → LexFails source other place → (rule ≡ other) × (line ≡ place))

-- A source has tokens or a failure.
abbrev pub HasAnswer : List ℕ → Type 0
HasAnswer source = ((ts : List Token) × AreTokens source ts) ⊎ ((rule : ℕ) × (line : ℕ) × LexFails source rule line)
