-- What the bytes of a source read as, and by which rule they fail.
use Rattle.std.specs.Prelude.{◌⊎◌, ℕ, List}
use Rattle.cl_tree.specs.declared.token.Token.{Token}
use Rattle.cl_tree.specs.declared.tree.Program.{Program}
use Rattle.cl_tree.specs.Tokens.{AreTokens, LexFails}
use Rattle.cl_tree.specs.Reading.{WithinLimits, ReadsAs, ParseFails}

-- the bytes read as the program, and no limit is passed
pub record ReadsWithin (source : List ℕ) (program : Program) : Type 0 where
  pub tokens : List Token
  pub cut : AreTokens source tokens
  pub within : WithinLimits tokens
  pub reads : ReadsAs tokens program

-- the first rule that fails, and its line: a lexical one, else one of the reader's over the source's tokens
abbrev pub FailsFirst : List ℕ → ℕ → ℕ → Type 0
FailsFirst source rule line = LexFails source rule line ⊎ ((tokens : List Token) × AreTokens source tokens × ParseFails tokens rule line)

abbrev pub HasProgram : List ℕ → Type 0
HasProgram source = (program : Program) × ReadsWithin source program

abbrev pub HasFailure : List ℕ → Type 0
HasFailure source = (rule : ℕ) × (line : ℕ) × FailsFirst source rule line
