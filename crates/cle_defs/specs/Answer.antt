-- What looking at rules of labels answers.
use Rattle.std.specs.Prelude.{◌≡◌, ℕ, List, [], Result, Ok, Err}
use Rattle.cl_mean.specs.declared.checked.Typed.{Typed}
use Rattle.cl_mean.specs.declared.labels.LabelTable.{LabelTable}
use Rattle.cl_typing.specs.Rules.{Rule, Lines, FirstFails, Begins}
use Rattle.cl_labelling.specs.Labelling.{label_rules, IsLabelled, LabellingFails}
use Rattle.cl_scope.specs.declared.stop.Stop.{Stop}
use Rattle.cl_scope.specs.declared.stop.Stop.TheVariants.{At, NoMemory}
use Rattle.cle_defs.specs.declared.stop.CleStop.{CleStop}
use Rattle.cle_defs.specs.declared.stop.CleStop.TheVariants as stop

-- a refusal names the first rule that fails, and its line
abbrev pub IsFailure : List Rule → CleStop → Type 0
IsFailure rs (stop.Rule number line) = FirstFails rs number line
IsFailure rs stop.NoMemory = Unit {0}

-- what one rule answers, and what it may bring with it
abbrev pub RuleAnswer : {A : Type 0} → ℕ → Lines → Result A CleStop → Type 0
RuleAnswer number places (Ok x) = places ≡ []
RuleAnswer number places (Err (stop.Rule n line)) = (n ≡ number) × Begins places line
RuleAnswer number places (Err stop.NoMemory) = Unit {0}

-- what a program is answered
abbrev pub TableAnswer : Typed → Result LabelTable CleStop → Type 0
TableAnswer typed (Ok table) = IsLabelled typed table
TableAnswer typed (Err e) = IsFailure (label_rules typed.program) e

-- how the search for a rule's first place ends, as the rule's answer
abbrev pub stopped : ℕ → Stop → CleStop
stopped number (At line) = stop.Rule number line
stopped number NoMemory = stop.NoMemory

abbrev pub HasTable : Typed → Type 0
HasTable typed = (table : LabelTable) × IsLabelled typed table

abbrev pub HasFailure : Typed → Type 0
HasFailure typed = (number : ℕ) × (line : ℕ) × LabellingFails typed number line
