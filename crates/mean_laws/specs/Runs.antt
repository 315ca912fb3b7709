-- What the laws say of runs.
use Rattle.std.specs.Prelude.{◌≡◌, ℕ, suc, ℤ, Bool, true, false, List, [], ◌∷◌, ◌++◌, Some, Result, Ok, Err, ◌⊎◌}
use Rattle.cl_tree.specs.Words.{Word}
use Rattle.cl_mean.specs.declared.checked.Checked.{Checked}
use Rattle.cl_mean.specs.declared.law.Law.{Law}
use Rattle.cl_mean.specs.Value.{Labelled}
use Rattle.cl_mean.specs.State.{State}
use Rattle.cl_mean.specs.Source.{Definition, Source, source_of, function_named, function_at}
use Rattle.cl_mean.specs.Course.{Course, comes, stops, asks, Stop, unbounded, Reply}
use Rattle.cl_mean.specs.Calls.{far}
use Rattle.cl_mean.specs.Guarded.{Kept, GuardedRun, guarded, serves_at}
use Rattle.cl_mean.specs.Meaning.{bound_of, main_course, guarded_start}
use Rattle.cl_mean.specs.Journal.{Frame, Said, says_stop, message}
use Rattle.cl_mean.specs.LocalRun.{Stand, rests, waits, over, LevelRun, serving_of, acted_all, began_in}
use Rattle.mean_laws.specs.Alike.{Nums, Replies, Asks, SideBySide, AtLevel, LevelsAll, Between}

-- ---- guarded runs

-- Two ends of runs: results that `P` relates, or the same stop, and then `S` besides. Where the first run stops so that `Lax` holds,
-- nothing is said of the second.
abbrev pub SameResult : {A B : Type 0} → (Stop → Type 0) → (A → B → Type 0) → Type 0 → Result A Stop → Result B Stop → Type 0
SameResult Lax P S (Ok a) (Ok b) = P a b × S
SameResult Lax P S (Ok a) (Err k) = ⊥
SameResult Lax P S (Err h) (Ok b) = Lax h
SameResult Lax P S (Err h) (Err k) = Lax h ⊎ ((h ≡ k) × S)

-- the same numbers or the same stop, the same levels, the same laws, the same crossings: all but for labels
abbrev pub SameOutcome : (Stop → Type 0) → GuardedRun (List Labelled) → GuardedRun (List Labelled) → Type 0
SameOutcome Lax r q = SameResult Lax Nums (LevelsAll r.levels q.levels × Between r.kept q.kept) r.result q.result

abbrev pub Never : Stop → Type 0
Never stop = ⊥

abbrev pub IsUnbounded : Stop → Type 0
IsUnbounded stop = stop ≡ unbounded

-- the guarded run of `main` from a state, with a bound on rounds and calls
abbrev pub run_from : Checked → Law → List Law → ℕ → State → GuardedRun (List Labelled)
run_from checked law houses bound state =
    guarded (serves_at (source_of checked) bound bound) (main_course checked (far (source_of checked)) bound state) (guarded_start law houses)

-- an outcome, and then what its result chooses; a stop stays
abbrev pub on_result : {A B : Type 0} → (A → State → Kept → GuardedRun B) → State → Kept → Result A Stop → GuardedRun B
on_result next state g (Ok a) = next a state g
on_result next state g (Err stop) = record { result = Err stop; levels = state; kept = g }

abbrev pub then_run : {A B : Type 0} → (A → State → Kept → GuardedRun B) → GuardedRun A → GuardedRun B
then_run next r = on_result next r.levels r.kept r.result

-- ---- plain runs

abbrev pub NeverAsks : {A : Type 0} → Course A → Type 0
NeverAsks (comes a s) = Unit {0}
NeverAsks (stops h s) = Unit {0}
NeverAsks (asks a s rest) = ⊥

-- ---- the bound

-- the course doesn't stop because the bound on rounds and calls is met
abbrev pub Unmet : {A : Type 0} → Course A → Type 0
Unmet x = (state : State) → x ≡ stops unbounded state → ⊥

-- nor does any course that a level may follow from where it stands: in answer to any request, or to any reply that it awaits
abbrev pub StandsUnmet : Source → ℕ → Stand → Type 0
StandsUnmet source bound (rests state) = (d : Definition) (numbers : List ℤ) → Unmet (serving_of source bound d numbers state)
StandsUnmet source bound (waits role a state rest) = (reply : Reply) → Unmet (rest reply state)
StandsUnmet source bound (over state) = Unit {0}

-- ---- local runs

-- a level stands alike in two runs: nothing is asked of the other levels, and from every two replies of the same numbers it goes on alike
abbrev pub SameStand : ℕ → Stand → Stand → Type 0
SameStand L (rests s) (rests t) = AtLevel L s t
SameStand L (waits role a s f) (waits role' b t g) =
    (role ≡ role') × Asks a b × AtLevel L s t × ((r q : Reply) → Replies r q → (s' t' : State) → AtLevel L s' t' → SideBySide (AtLevel L) Never Nums (f r s') (g q t'))
SameStand L (over s) (over t) = AtLevel L s t
SameStand L _ _ = ⊥

-- it stands alike, sent the same frames and met the same ends
abbrev pub SameLocal : ℕ → LevelRun → LevelRun → Type 0
SameLocal L l m = SameStand L l.stand m.stand × (l.sent ≡ m.sent) × (l.ends ≡ m.ends)

abbrev pub IsOver : LevelRun → Type 0
IsOver l = (state : State) × (l.stand ≡ over state)

abbrev pub is_stop : Said → Bool
is_stop says_stop = true
is_stop (message k reply content) = false

-- what a frame adds to what was sent: nothing, or one frame of the next turn; nothing in answer to a stop frame
pub data Adds (turn : ℕ) (said : Said) (before : List Frame) (now : List Frame) : Type 0 where
  nothing_more : now ≡ before → Adds turn said before now
  one_frame : (f : Frame) → f.turn ≡ suc turn → is_stop said ≡ false → now ≡ before ++ f ∷ [] → Adds turn said before now

-- ---- the functions of a source

-- a function of the source: by a name, or by a number
abbrev pub IsFunctionOf : Source → Definition → Type 0
IsFunctionOf source d = ((name : Word) × (function_named source.functions name ≡ Some d)) ⊎ ((k : ℕ) × (function_at source.functions k ≡ Some d))

-- a level's own run from a state, given the frames that it received
abbrev pub local_from : Checked → ℕ → ℕ → State → List Frame → LevelRun
local_from checked level limit state frames = acted_all (source_of checked) (bound_of checked limit) level (began_in checked level limit state) frames
