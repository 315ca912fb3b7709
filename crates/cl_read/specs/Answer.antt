-- What the front end answers.
use Rattle.std.specs.Prelude.{ℕ, List}
use Rattle.cl_read.specs.Source.{FailsFirst}
use Rattle.cl_read.specs.declared.stop.ReadStop.{ReadStop}
use Rattle.cl_read.specs.declared.stop.ReadStop.TheVariants.{Refused, NoMemory}

-- a refusal names the first rule that fails, and its line
abbrev pub IsFailure : List ℕ → ReadStop → Type 0
IsFailure source (Refused rule line) = FailsFirst source rule line
IsFailure source NoMemory = Unit {0}
