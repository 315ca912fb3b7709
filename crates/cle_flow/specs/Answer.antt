-- What looking at the rules of label flow answers.
use Rattle.std.specs.Prelude.{ℕ, List, Result, Ok, Err}
use Rattle.cl_mean.specs.declared.checked.Flow.{Flow}
use Rattle.cl_levels.specs.Crossings.{Levelled}
use Rattle.cl_levels.specs.Placed.{PlacedRule, AllPlacedHold, FirstPlacedFails}
use Rattle.cle_ways.specs.Flow.{flow_rules, IsFlow}
use Rattle.cle_flow.specs.declared.stop.FlowStop.{FlowStop}
use Rattle.cle_flow.specs.declared.stop.FlowStop.TheVariants as stop

-- a refusal names the first rule that fails, and its line
abbrev pub IsFailure : List PlacedRule → FlowStop → Type 0
IsFailure rs (stop.Rule number line) = FirstPlacedFails rs number line
IsFailure rs stop.NoMemory = Unit {0}

-- what some rules in turn answer, and what may be brought with it
abbrev pub RulesAnswer : {A : Type 0} → List PlacedRule → Result A FlowStop → Type 0
RulesAnswer rs (Ok x) = AllPlacedHold rs
RulesAnswer rs (Err e) = IsFailure rs e

-- The rules of label flow hold, and this is what the program's data carries.
pub record HasFlow (l : Levelled) (flow : Flow) : Type 0 where
  pub holds : AllPlacedHold (flow_rules l)
  pub is_flow : IsFlow l flow

abbrev pub FlowAnswer : Levelled → Result Flow FlowStop → Type 0
FlowAnswer l (Ok flow) = HasFlow l flow
FlowAnswer l (Err e) = IsFailure (flow_rules l) e

-- the first rule of label flow that fails
abbrev pub FlowFails : Levelled → ℕ → ℕ → Type 0
FlowFails l rule line = FirstPlacedFails (flow_rules l) rule line
