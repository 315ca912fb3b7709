-- What one level does by itself: it begins, and acts on each frame that it receives.
use Rattle.std.specs.Prelude.{ℕ, zero, suc, ◌^◌, Bool, true, false, ◌==◌, ◌&&◌, nat_lt, ℤ, List, [], ◌∷◌, ◌++◌, map, Option, Some, None, if◌then◌else◌}
use Rattle.cl_tree.specs.declared.kinds.IntKind.{IntKind}
use Rattle.cl_tree.specs.Arithmetic.{fits}
use Rattle.cl_mean.specs.declared.outcome.End.{End}
use Rattle.cl_mean.specs.declared.checked.GedlRow.{GedlRow}
use Rattle.cl_mean.specs.declared.checked.Checked.{Checked}
use Rattle.cl_mean.specs.Value.{Labelled, bare}
use Rattle.cl_mean.specs.Shape.{kinds_of}
use Rattle.cl_mean.specs.State.{LevelState, State, level_in, with_level}
use Rattle.cl_mean.specs.Source.{Definition, Source, source_of, function_at, is_main_at, payload_of}
use Rattle.cl_mean.specs.Course.{Course, comes, stops, asks, Ask, Reply}
use Rattle.cl_mean.specs.Calls.{far, call_at, local_call, served}
use Rattle.cl_mean.specs.Guarded.{Content, holds, blocked, broken}
use Rattle.cl_mean.specs.Meaning.{start_of, bound_of, main_course, exit_of, end_by, output_bytes}
use Rattle.cl_mean.specs.Journal.{Said, says_stop, message, Frame, frame, numbers_of, bytes_of, frame_in}

-- ---- frames that fit

-- numbers of a payload: one of each kind
abbrev pub is_fitting : List IntKind → List ℤ → Bool
is_fitting [] [] = true
is_fitting (k ∷ ks) (n ∷ ns) = fits k n && is_fitting ks ns
is_fitting _ _ = false

abbrev pub is_content : List IntKind → Content ℤ → Bool
is_content kinds (holds ns) = is_fitting kinds ns
is_content kinds blocked = true
is_content kinds broken = true

unfoldable pub is_turn : ℕ → Bool
is_turn turn = nat_lt turn (2 ^ 63)

-- ---- where a level stands

-- what a level does its work for: `main`, or a request of a row
pub data Role : Type 0 where
  running : Role
  serving : ℕ → Role

-- it rests, or it awaits the reply of what it asked, with all that may follow, or it is over
pub data Stand : Type 0 where
  rests : State → Stand
  waits : Role → Ask → State → (Reply → State → Course (List Labelled)) → Stand
  over : State → Stand

-- a level's own run: where it stands, the frames that it sent, the ends that it met
pub record LevelRun : Type 0 where
  pub stand : Stand
  pub sent : List Frame
  pub ends : List End

abbrev pub stays : Stand → LevelRun → LevelRun
stays stand l = record { stand = stand; sent = l.sent; ends = l.ends }

-- ---- as far as a course goes by itself

-- with no active call
abbrev pub with_none_active : LevelState → LevelState
with_none_active l = record { objects = l.objects; input = l.input; output = l.output; steps_left = l.steps_left; active = 0; cost = l.cost }

abbrev pub rested : ℕ → State → State
rested level state = with_level state level (with_none_active (level_in state level))

-- at the end of its work a level rests; at that of `main` it is over
abbrev pub ended : Role → State → Stand
ended running state = over state
ended (serving k) state = rests state

-- after a trap or a broken reply too, with no active call
abbrev pub stand_after_stop : ℕ → Role → State → Stand
stand_after_stop level running state = over state
stand_after_stop level (serving k) state = rests (rested level state)

-- what it sends at the end of its work: the stop frame, or its reply
abbrev pub closes : Role → Content ℤ → Said
closes running content = says_stop
closes (serving k) content = message k true content

-- the end that it met, if it met one
abbrev pub met : Option End → List End
met None = []
met (Some end) = end ∷ []

abbrev pub exits : Role → List Labelled → List End
exits running xs = met (exit_of xs)
exits (serving k) xs = []

abbrev pub stand_of : ℕ → Role → Course (List Labelled) → Stand
stand_of level role (comes xs state) = ended role state
stand_of level role (stops stop state) = stand_after_stop level role state
stand_of level role (asks a state rest) = waits role a state rest

abbrev pub said_of : Role → Course (List Labelled) → Said
said_of role (comes xs state) = closes role (holds (numbers_of xs))
said_of role (stops stop state) = closes role broken
said_of role (asks a state rest) = message a.row false (holds (numbers_of a.values))

abbrev pub ends_of : Role → Course (List Labelled) → List End
ends_of role (comes xs state) = exits role xs
ends_of role (stops stop state) = met (end_by stop)
ends_of role (asks a state rest) = []

-- A level follows a course to its end or to where it asks, and sends one frame: of the next turn to the one that it acted on.
abbrev pub follows : ℕ → Role → ℕ → LevelRun → Course (List Labelled) → LevelRun
follows level role turn l course = record {
  stand = stand_of level role course;
  sent = l.sent ++ frame (suc turn) (said_of role course) ∷ [];
  ends = l.ends ++ ends_of role course;
}

-- a broken reply breaks off what waited for it
abbrev pub breaks_off : ℕ → Role → ℕ → State → LevelRun → LevelRun
breaks_off level role turn state l = record {
  stand = stand_after_stop level role state;
  sent = l.sent ++ frame (suc turn) (closes role broken) ∷ [];
  ends = l.ends;
}

-- ---- a frame at rest

abbrev pub row_at : List GedlRow → ℕ → Option GedlRow
row_at [] k = None
row_at (row ∷ rows) zero = Some row
row_at (row ∷ rows) (suc k) = row_at rows k

-- a function, if it is one of the level
abbrev pub if_at : ℕ → Option Definition → Option Definition
if_at level None = None
if_at level (Some d) = if d.level == level then Some d else None

-- the function of a row that a level serves
abbrev pub function_served : Source → ℕ → Option GedlRow → Option Definition
function_served source level None = None
function_served source level (Some row) = if_at level (function_at source.functions row.function)

-- it serves a request on fresh objects, by far calls
abbrev pub serving_of : Source → ℕ → Definition → List ℤ → State → Course (List Labelled)
serving_of source bound d ns = served (local_call source bound (call_at source (far source) bound)) d (map bare ns)

abbrev pub begins : Source → ℕ → ℕ → ℕ → State → LevelRun → ℕ → Content ℤ → Option Definition → LevelRun
begins source bound level turn state l k (holds ns) (Some d) =
    if is_fitting (kinds_of (payload_of d false)) ns then follows level (serving k) turn l (serving_of source bound d ns state)
    else stays (rests state) l
begins source bound level turn state l k _ _ = stays (rests state) l

-- ---- a frame while a reply is awaited

abbrev pub answered : ℕ → Role → ℕ → State → (Reply → State → Course (List Labelled)) → LevelRun → Content ℤ → LevelRun
answered level role turn state rest l (holds ns) = follows level role turn l (rest (Some (map bare ns)) state)
answered level role turn state rest l blocked = follows level role turn l (rest None state)
answered level role turn state rest l broken = breaks_off level role turn state l

-- ---- the run of a level

-- What a level does with a frame of a turn. One that fits no case is passed over.
abbrev pub acts : Source → ℕ → ℕ → ℕ → LevelRun → Stand → Said → LevelRun
acts source bound level turn l (over state) said = stays (over state) l
acts source bound level turn l (rests state) says_stop = stays (over state) l
acts source bound level turn l (rests state) (message k false content) =
    begins source bound level turn state l k content (function_served source level (row_at source.rows k))
acts source bound level turn l (rests state) (message k true content) = stays (rests state) l
acts source bound level turn l (waits role a state rest) says_stop = stays (over state) l
acts source bound level turn l (waits role a state rest) (message k false content) = stays (waits role a state rest) l
acts source bound level turn l (waits role a state rest) (message k true content) =
    if (k == a.row) && is_content (kinds_of (payload_of a.callee true)) content then answered level role turn state rest l content else stays (waits role a state rest) l

-- a turn of 2^63 or more fits no case
unfoldable pub acted : Source → ℕ → ℕ → LevelRun → Frame → LevelRun
acted source bound level l f = if is_turn f.turn then acts source bound level f.turn l l.stand f.said else l

-- a level acts on each frame in order
unfoldable pub acted_all : Source → ℕ → ℕ → LevelRun → List Frame → LevelRun
acted_all source bound level l [] = l
acted_all source bound level l (f ∷ fs) = acted_all source bound level (acted source bound level l f) fs

-- the inputs, where one level has this one
abbrev pub input_only : ℕ → List ℕ → List (List ℕ)
input_only zero input = input ∷ []
input_only (suc level) input = [] ∷ input_only level input

-- A level begins at rest, and the level of `main` in `main`. It has the start state of a run, of which only its own part matters.
abbrev pub began_in : Checked → ℕ → ℕ → State → LevelRun
began_in checked level limit state =
    if is_main_at (source_of checked) level
    then follows level running 0 (record { stand = rests state; sent = []; ends = [] })
    (main_course checked (far (source_of checked)) (bound_of checked limit) state)
    else record { stand = rests state; sent = []; ends = [] }

unfoldable pub began : Checked → ℕ → List ℕ → ℕ → LevelRun
began checked level input limit = began_in checked level limit (start_of checked (input_only level input) limit)

-- The local run of a level with its input and step limit, given the frames that it received.
unfoldable pub level_run : Checked → ℕ → List ℕ → ℕ → List Frame → LevelRun
level_run checked level input limit received =
    acted_all (source_of checked) (bound_of checked limit) level (began checked level input limit) received

-- The same by bytes: those that are no frame fit no case, and are passed over.
abbrev pub frames_in : Source → List (List ℕ) → List Frame
frames_in source [] = []
frames_in source (bytes ∷ rest) = with_frame (frame_in source bytes) (frames_in source rest)
  where
    with_frame : Option Frame → List Frame → List Frame
    with_frame None fs = fs
    with_frame (Some f) fs = f ∷ fs

unfoldable pub level_run_by_bytes : Checked → ℕ → List ℕ → ℕ → List (List ℕ) → LevelRun
level_run_by_bytes checked level input limit received =
    level_run checked level input limit (frames_in (source_of checked) received)

-- ---- what the others can see of it

-- the bytes of what it sent
abbrev pub sent_bytes : Source → LevelRun → List (List ℕ)
sent_bytes source l = map (bytes_of source) l.sent

abbrev pub state_at : Stand → State
state_at (rests state) = state
state_at (waits role a state rest) = state
state_at (over state) = state

abbrev pub output_at : ℕ → LevelRun → List ℕ
output_at level l = output_bytes (level_in (state_at l.stand) level)
