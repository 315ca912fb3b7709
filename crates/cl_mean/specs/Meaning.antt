-- The meaning of a checked source: what each level writes, what crosses between levels, and how the run ends.
use Rattle.std.specs.Prelude.{ℕ, suc, ◌+◌, ◌*◌, ◌==◌, pos, List, [], ◌∷◌, map, filter, length, slice_index_or, Option, Some, None, Result, Ok, Err}
use Rattle.cl_mean.specs.declared.law.Law.{Law}
use Rattle.cl_mean.specs.declared.outcome.End.{End}
use Rattle.cl_mean.specs.declared.outcome.End.TheVariants.{Exit, Trapped}
use Rattle.cl_mean.specs.declared.checked.Checked.{Checked}
use Rattle.cl_mean.specs.Value.{Labelled, bare, carries_just, each}
use Rattle.cl_mean.specs.Shape.{nothing, zero_of}
use Rattle.cl_mean.specs.State.{Object, LevelState, State}
use Rattle.cl_mean.specs.Source.{Definition, Source, Static, source_of, main_of}
use Rattle.cl_mean.specs.Course.{Course, comes, stops, asks, Computation, Stop, traps, unbounded, meaningless, pure, halted, the_number, state_of, ◌>>=◌, ◌>>◌}
use Rattle.cl_mean.specs.Evaluation.{Calls}
use Rattle.cl_mean.specs.Execution.{Ending, goes_on, breaks, continues, returns, filled}
use Rattle.cl_mean.specs.Calls.{Across, far, unguarded, call_at, body_run}
use Rattle.cl_mean.specs.Guarded.{Crossing, Kept, GuardedRun, guarded, serves_at}

-- ---- the start

-- the objects of a level, in the order of the source: each zero, with the labels of its own
abbrev pub started : Static → Object
started s = record { own = s.own; value = each (carries_just s.own) (zero_of s.binding.shape) }

abbrev pub objects_at : List Static → ℕ → List Object
objects_at statics level = map started (filter (λ s. s.binding.place.level == level) statics)

abbrev pub no_input : List ℕ
no_input = []

-- a level at the start of a run; one without an input has the empty one
abbrev pub level_at : Source → List (List ℕ) → ℕ → ℕ → LevelState
level_at source inputs limit level = record {
  objects = objects_at source.statics level;
  input = slice_index_or inputs level no_input;
  output = [];
  steps_left = limit;
  active = 0;
  cost = 0;
}

abbrev pub levels_from : {A : Type 0} → (ℕ → LevelState) → ℕ → List A → List LevelState
levels_from at level [] = []
levels_from at level (name ∷ names) = at level ∷ levels_from at (suc level) names

-- initialisers of objects of static duration call nothing
abbrev pub no_calls : Calls
no_calls here line d args = halted meaningless

-- and stand in no function
abbrev pub no_function : Definition
no_function = record { index = 0; name = []; line = 0; level = 0; taints = None; entries = []; result = nothing; params = []; body = []; statics = [] }

-- they are executed in the order of the source before the run
abbrev pub all_filled : Source → List Static → Computation (Unit {0})
all_filled source [] = pure tt
all_filled source (s ∷ ss) =
    filled (record { source = source; calls = no_calls; here = no_function }) [] s.init s.binding.shape s.binding.place >> all_filled source ss

-- where an initialiser stops there is no level, and nothing runs
abbrev pub filled_state : Course (Unit {0}) → State
filled_state (comes x state) = state
filled_state (stops stop state) = []
filled_state (asks a state rest) = []

unfoldable pub start_of : Checked → List (List ℕ) → ℕ → State
start_of checked inputs limit =
    let source = source_of checked in
    filled_state (all_filled source source.statics (levels_from (level_at source inputs limit) 0 checked.labels.levels))

-- ---- the bound

-- The steps of all levels, and one more. Each call and each round of a loop takes a step, so this bound is never met.
unfoldable pub bound_of : Checked → ℕ → ℕ
bound_of checked limit = length checked.labels.levels * limit + 1

-- ---- runs

-- `main` comes to one integer: the value that it returns; at its end it returns 0
abbrev pub exit_value : Ending → Computation (List Labelled)
exit_value (returns v) = the_number v >>= λ x. pure (x ∷ [])
exit_value (goes_on env) = pure (bare (pos 0) ∷ [])
exit_value breaks = halted meaningless
exit_value continues = halted meaningless

abbrev pub main_run : Source → Across → ℕ → Option Definition → Computation (List Labelled)
main_run source across bound None = halted meaningless
main_run source across bound (Some d) = body_run source bound (call_at source across bound) d [] >>= exit_value

unfoldable pub main_course : Checked → Across → ℕ → Computation (List Labelled)
main_course checked across bound = main_run (source_of checked) across bound (main_of (source_of checked))

-- An end is an exit value or a trap. There is none where a run stops otherwise, which no accepted source does.
abbrev pub exit_of : List Labelled → Option End
exit_of [] = None
exit_of (x ∷ xs) = Some (Exit x.number)

abbrev pub end_by : Stop → Option End
end_by (traps level t) = Some (Trapped level t)
end_by unbounded = None
end_by meaningless = None

abbrev pub output_bytes : LevelState → List ℕ
output_bytes l = map (λ w. w.byte) l.output

abbrev pub outputs_of : State → List (List ℕ)
outputs_of state = map output_bytes state

-- ---- the guarded meaning

abbrev pub result_end : Result (List Labelled) Stop → Option End
result_end (Ok xs) = exit_of xs
result_end (Err stop) = end_by stop

-- what a run leaves: the outputs of the levels in order, what crossed, and its end
pub record Run : Type 0 where
  pub outputs : List (List ℕ)
  pub crossings : List Crossing
  pub end : Option End

abbrev pub guarded_start : Law → List Law → Kept
guarded_start law houses = record { law = law; houses = houses; crossings = [] }

-- the guarded run of `main`, whose calls of other levels ask
unfoldable pub guarded_run : Checked → Law → List Law → List (List ℕ) → ℕ → GuardedRun (List Labelled)
guarded_run checked law houses inputs limit =
    guarded (serves_at (source_of checked) (bound_of checked limit) (bound_of checked limit))
    (main_course checked (far (source_of checked)) (bound_of checked limit) (start_of checked inputs limit))
    (guarded_start law houses)

abbrev pub run_of : GuardedRun (List Labelled) → Run
run_of r = record { outputs = outputs_of r.levels; crossings = r.kept.crossings; end = result_end r.result }

-- The guarded meaning.
unfoldable pub mean : Checked → Law → List Law → List (List ℕ) → ℕ → Run
mean checked law houses inputs limit = run_of (guarded_run checked law houses inputs limit)

-- ---- the plain meaning

-- a course of plain calls never asks
abbrev pub course_end : Course (List Labelled) → Option End
course_end (comes xs state) = exit_of xs
course_end (stops stop state) = end_by stop
course_end (asks a state rest) = None

-- the outputs and the end
pub record PlainRun : Type 0 where
  pub outputs : List (List ℕ)
  pub end : Option End

unfoldable pub plain_run : Checked → List (List ℕ) → ℕ → Course (List Labelled)
plain_run checked inputs limit =
    main_course checked (unguarded (source_of checked)) (bound_of checked limit) (start_of checked inputs limit)

abbrev pub plain_of : Course (List Labelled) → PlainRun
plain_of c = record { outputs = outputs_of (state_of c); end = course_end c }

-- The plain meaning: C's own, where a call of another level is a call.
unfoldable pub plain : Checked → List (List ℕ) → ℕ → PlainRun
plain checked inputs limit = plain_of (plain_run checked inputs limit)
