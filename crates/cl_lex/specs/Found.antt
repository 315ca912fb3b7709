-- What the lexer finds at one place.
use Rattle.std.specs.Prelude.{◌≡◌, ℕ, ◌<◌, ◌≤◌, Bool, List, None, length, take}
use Rattle.cl_tree.specs.Joins.{bytes_of, places_of}
use Rattle.cl_tree.specs.Tokens.{Before, Definitions, IsTaken, IsCut, IsFault, FailsAt, at_start, flaw, fresh_after, piece_meaning, tokens_from}
use Rattle.cl_tree.specs.declared.pieces.PieceMeaning.{PieceMeaning}
use Rattle.cl_tree.specs.declared.pieces.Place.{Place}
use Rattle.cl_tree.specs.declared.token.Token.{Token}
use Rattle.cl_lex.specs.declared.pieces.Halt.{Halt}
use Rattle.cl_lex.specs.declared.pieces.Halt.TheVariants.{Memory, Fault}
use Rattle.cl_lex.specs.declared.lex.LexStop.{LexStop}
use Rattle.cl_lex.specs.declared.lex.LexStop.TheVariants.{Rule, NoMemory}

abbrev pub before : Bool → Definitions → Before
before fresh definitions = record { fresh = fresh; definitions = definitions }

-- These are the tokens of a text up to a rest of it, before strings are joined; `last` is known before the rest.
pub record AreLexed (text : List ℕ) (places : List Place) (ts : List Token) (last : Before) (rest : List ℕ) : Type 0 where
  pub pieces : List (List ℕ)
  pub cut : IsCut at_start pieces text last rest
  pub tokens : ts ≡ tokens_from places at_start 0 pieces

-- n bytes at the start of a text are a piece that breaks no rule, and it reads so
pub record IsPieceOf (s : Before) (n : ℕ) (fresh : Bool) (found : PieceMeaning) (text : List ℕ) : Type 0 where
  pub taken : IsTaken s.fresh (take n text) text
  pub flawless : flaw s (take n text) ≡ None
  pub reads : found ≡ piece_meaning s.fresh (take n text)
  pub next : fresh ≡ fresh_after s.fresh (take n text)
  pub some : 0 < n
  pub within : n ≤ length text

-- why no such piece stands there
abbrev pub IsHalt : Before → List ℕ → Halt → Type 0
IsHalt s text Memory = Unit {0}
IsHalt s text (Fault rule i) = IsFault s text rule i

-- what an Err says of a text
abbrev pub IsFailure : List ℕ → List Place → LexStop → Type 0
IsFailure text places NoMemory = Unit {0}
IsFailure text places (Rule number line) = FailsAt text places number line

-- what an Err says of a source
abbrev pub IsFailureOf : List ℕ → LexStop → Type 0
IsFailureOf source = IsFailure (bytes_of source) (places_of source)

-- unless memory ran out, the Err is this one
abbrev pub IsStop : ℕ → ℕ → LexStop → Type 0
IsStop number line NoMemory = Unit {0}
IsStop number line (Rule n l) = (n ≡ number) × (l ≡ line)
