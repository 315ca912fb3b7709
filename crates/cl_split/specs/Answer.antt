-- What looking at rules of levels and of crossing calls answers.
use Rattle.std.specs.Prelude.{◌≡◌, ℕ, List, Result, Ok, Err}
use Rattle.cl_mean.specs.declared.checked.Levels.{Levels}
use Rattle.cl_mean.specs.declared.checked.Typed.{Typed}
use Rattle.cl_mean.specs.declared.labels.LabelTable.{LabelTable}
use Rattle.cl_mean.specs.declared.checked.GedlRows.{GedlRows}
use Rattle.cl_levels.specs.Crossings.{Levelled, AreRows, level_rules, crossing_rules}
use Rattle.cl_levels.specs.Levels.{Annotated, IsLevelled}
use Rattle.cl_levels.specs.Placed.{Places, PlacedRule, Holds, IsFirst, AllPlacedHold, FirstPlacedFails}
use Rattle.cl_split.specs.declared.stop.SplitStop.{SplitStop}
use Rattle.cl_split.specs.declared.stop.SplitStop.TheVariants as stop

abbrev pub annotated : Typed → LabelTable → Annotated
annotated typed labels = record { typed = typed; labels = labels }

abbrev pub levelled : Typed → LabelTable → Levels → Levelled
levelled typed labels levels = record { annotated = annotated typed labels; levels = levels }

-- a refusal names the first rule that fails, and its line
abbrev pub IsFailure : List PlacedRule → SplitStop → Type 0
IsFailure rs (stop.Rule number line) = FirstPlacedFails rs number line
IsFailure rs stop.NoMemory = Unit {0}

-- what one rule answers, and what it may bring with it
abbrev pub RuleAnswer : {A : Type 0} → ℕ → Places → Result A SplitStop → Type 0
RuleAnswer number Fails (Ok x) = Holds Fails
RuleAnswer number Fails (Err (stop.Rule n line)) = (n ≡ number) × IsFirst Fails line
RuleAnswer number Fails (Err stop.NoMemory) = Unit {0}

-- The rules of levels hold, and these are the program's levels.
pub record HasLevels (a : Annotated) (levels : Levels) : Type 0 where
  pub holds : AllPlacedHold (level_rules a)
  pub levelled : IsLevelled a levels

abbrev pub LevelsAnswer : Annotated → Result Levels SplitStop → Type 0
LevelsAnswer a (Ok levels) = HasLevels a levels
LevelsAnswer a (Err e) = IsFailure (level_rules a) e

-- The rules of crossing calls hold, and these are the program's rows.
pub record HasRows (l : Levelled) (rows : GedlRows) : Type 0 where
  pub holds : AllPlacedHold (crossing_rules l)
  pub are_rows : AreRows l rows

abbrev pub RowsAnswer : Levelled → Result GedlRows SplitStop → Type 0
RowsAnswer l (Ok rows) = HasRows l rows
RowsAnswer l (Err e) = IsFailure (crossing_rules l) e

-- the first rule of levels, or of crossing calls, that fails
abbrev pub LevelsFail : Annotated → ℕ → ℕ → Type 0
LevelsFail a rule line = FirstPlacedFails (level_rules a) rule line

abbrev pub CrossingsFail : Levelled → ℕ → ℕ → Type 0
CrossingsFail l rule line = FirstPlacedFails (crossing_rules l) rule line
