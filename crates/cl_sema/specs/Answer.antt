-- What looking at rules answers.
use Rattle.std.specs.Prelude.{◌≡◌, ℕ, List, [], Result, Ok, Err}
use Rattle.cl_tree.specs.declared.tree.Program.{Program}
use Rattle.cl_mean.specs.declared.checked.Typed.{Typed}
use Rattle.cl_typing.specs.Rules.{Rule, Lines, AllHold, FirstFails, Begins}
use Rattle.cl_typing.specs.Typing.{rules, IsTyped, TypingFails}
use Rattle.cl_scope.specs.declared.stop.Stop.{Stop}
use Rattle.cl_scope.specs.declared.stop.Stop.TheVariants.{At, NoMemory}
use Rattle.cl_sema.specs.declared.stop.SemaStop.{SemaStop}
use Rattle.cl_sema.specs.declared.stop.SemaStop.TheVariants as stop

-- a refusal names the first rule that fails, and its line
abbrev pub IsFailure : List Rule → SemaStop → Type 0
IsFailure rs (stop.Rule number line) = FirstFails rs number line
IsFailure rs stop.NoMemory = Unit {0}

-- what one rule answers
abbrev pub RuleAnswer : ℕ → Lines → Result (Unit {0}) SemaStop → Type 0
RuleAnswer number places (Ok x) = places ≡ []
RuleAnswer number places (Err (stop.Rule n line)) = (n ≡ number) × Begins places line
RuleAnswer number places (Err stop.NoMemory) = Unit {0}

-- what all of them answer
abbrev pub RulesAnswer : List Rule → Result (Unit {0}) SemaStop → Type 0
RulesAnswer rs (Ok x) = AllHold rs
RulesAnswer rs (Err e) = IsFailure rs e

-- what a program is answered
abbrev pub TypedAnswer : Program → Result Typed SemaStop → Type 0
TypedAnswer program (Ok typed) = IsTyped program typed
TypedAnswer program (Err e) = IsFailure (rules program) e

-- how the search for a rule's first place ends, as the rule's answer
abbrev pub stopped : ℕ → Stop → SemaStop
stopped number (At line) = stop.Rule number line
stopped number NoMemory = stop.NoMemory

abbrev pub HasTyping : Program → Type 0
HasTyping program = (typed : Typed) × IsTyped program typed

abbrev pub HasFailure : Program → Type 0
HasFailure program = (number : ℕ) × (line : ℕ) × TypingFails program number line
