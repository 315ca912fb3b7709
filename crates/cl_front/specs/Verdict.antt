-- The verdict on a source: it is accepted, or a rule fails first.
use Rattle.std.specs.Prelude.{◌⊎◌, ℕ, List, Result, Ok, Err}
use Rattle.cl_mean.specs.declared.checked.Checked.{Checked}
use Rattle.cl_mean.specs.declared.checked.Levels.{Levels}
use Rattle.cl_mean.specs.declared.checked.Typed.{Typed}
use Rattle.cl_mean.specs.declared.labels.LabelTable.{LabelTable}
use Rattle.cl_tree.specs.declared.tree.Program.{Program}
use Rattle.cl_read.specs.Source.{ReadsWithin, FailsFirst}
use Rattle.cl_typing.specs.Typing.{IsTyped, TypingFails}
use Rattle.cl_labelling.specs.Labelling.{IsLabelled, LabellingFails}
use Rattle.cl_levels.specs.Crossings.{Levelled}
use Rattle.cl_split.specs.Answer.{annotated, levelled, HasLevels, HasRows, LevelsFail, CrossingsFail}
use Rattle.cle_flow.specs.Answer.{HasFlow, FlowFails}
use Rattle.cl_front.specs.declared.stop.FrontStop.{FrontStop}
use Rattle.cl_front.specs.declared.stop.FrontStop.TheVariants.{Refused, NoMemory}

-- The source reads as a program of which each rule holds, and this is what was found out about it.
pub record IsAccepted (source : List ℕ) (checked : Checked) : Type 0 where
  pub reads : ReadsWithin source checked.typed.program
  pub is_typed : IsTyped checked.typed.program checked.typed
  pub is_labelled : IsLabelled checked.typed checked.labels
  pub has_levels : HasLevels (annotated checked.typed checked.labels) checked.levels
  pub has_rows : HasRows (levelled checked.typed checked.labels checked.levels) checked.gedl
  pub has_flow : HasFlow (levelled checked.typed checked.labels checked.levels) checked.flow

-- rules fail, by a number and a line
abbrev pub Failing : Type 1
Failing = ℕ → ℕ → Type 0

-- The rules of a pass fail first; or the pass gives a value, and a rule of what comes behind it fails.
abbrev pub InTurn : {V : Type 0} → Failing → (V → Type 0) → (V → Failing) → Failing
InTurn {V} Fails Is Behind rule line = Fails rule line ⊎ ((v : V) × (Is v × Behind v rule line))

abbrev pub CallsFail : Levelled → Failing
CallsFail l = InTurn (CrossingsFail l) (HasRows l) (λ rows. FlowFails l)

abbrev pub DivisionFails : Typed → LabelTable → Failing
DivisionFails typed labels =
    InTurn (LevelsFail (annotated typed labels)) (HasLevels (annotated typed labels)) (λ levels. CallsFail (levelled typed labels levels))

abbrev pub AnnotationsFail : Typed → Failing
AnnotationsFail typed = InTurn (LabellingFails typed) (IsLabelled typed) (DivisionFails typed)

abbrev pub ProgramFails : Program → Failing
ProgramFails program = InTurn (TypingFails program) (IsTyped program) AnnotationsFail

-- The first rule that fails has this number, and its first place is at this line.
abbrev pub IsRefused : List ℕ → Failing
IsRefused source = InTurn (FailsFirst source) (ReadsWithin source) ProgramFails

-- a refusal is the source's
abbrev pub IsRefusal : List ℕ → FrontStop → Type 0
IsRefusal source (Refused rule line) = IsRefused source rule line
IsRefusal source NoMemory = Unit {0}

abbrev pub Verdict : List ℕ → Result Checked FrontStop → Type 0
Verdict source (Ok checked) = IsAccepted source checked
Verdict source (Err e) = IsRefusal source e
