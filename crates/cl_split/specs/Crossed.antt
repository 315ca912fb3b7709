-- A program with its labels and levels, and its calls across levels.
use Rattle.std.specs.Prelude.{◌≡◌, ℕ, map, Result, Ok, Err}
use Rattle.cl_labelling.specs.Labelling.{IsLabelled}
use Rattle.cl_levels.specs.Crossings.{Levelled, crossings_of}
use Rattle.cl_levels.specs.Uses.{uses_of}
use Rattle.cl_scope.specs.declared.stop.Stop.{Stop}
use Rattle.cl_scope.specs.declared.stop.Stop.TheVariants as search
use Rattle.cl_split.specs.Answer.{annotated, levelled, HasLevels}
use Rattle.cl_split.specs.declared.crossed.Crossed.{Crossed}
use Rattle.cl_split.specs.declared.stop.SplitStop.{SplitStop}
use Rattle.cl_split.specs.declared.stop.SplitStop.TheVariants as stop
use Rattle.cl_typing.specs.Typing.{IsTyped}

abbrev pub program_of : Crossed → Levelled
program_of x = levelled x.typed.now x.labels.now x.levels.now

pub record IsCrossed (x : Crossed) : Type 0 where
  pub typed : IsTyped x.typed.now.program x.typed.now
  pub labels : IsLabelled x.typed.now x.labels.now
  pub levels : HasLevels (annotated x.typed.now x.labels.now) x.levels.now
  pub uses : map (λ b. b.uses) x.uses.functions ≡ uses_of x.typed.now
  pub crossings : x.crossings.items ≡ crossings_of (program_of x)

-- what the search for the places of one rule comes to
abbrev pub ruled : ℕ → Result (Unit {0}) Stop → Result (Unit {0}) SplitStop
ruled rule (Ok x) = Ok x
ruled rule (Err (search.At line)) = Err (stop.Rule rule line)
ruled rule (Err search.NoMemory) = Err stop.NoMemory
