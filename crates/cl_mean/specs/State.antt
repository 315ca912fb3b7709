-- The state of a run, and all that is done to it: deeds of one level.
use Rattle.std.specs.Prelude.{ℕ, Bool, ◌&&◌, ◌+◌, ◌-◌, nat_lt, nat_le, ℤ, pos, negsuc, List, [], ◌∷◌, ◌++◌, length, slice_index_or, slice_set, Result, Ok, Err, if◌then◌else◌}
use Rattle.cl_base.specs.declared.limits.TheConstants.{OUTPUT_BYTES, ACTIVE_CALLS, FRAME_COST}
use Rattle.cl_tree.specs.declared.kinds.TrapCause.{TrapCause}
use Rattle.cl_tree.specs.declared.kinds.TrapCause.TheVariants.{Steps, Depth, Output, Frames}
use Rattle.cl_mean.specs.declared.labels.Mention.{Mention}
use Rattle.cl_mean.specs.Value.{Value, no_value, at_path, with_path, is_path, each, carries_too}

-- ---- the state

-- an object: the labels of its own, which all that is stored in it carries, and its value
pub record Object : Type 0 where
  pub own : List Mention
  pub value : Value

-- a byte of output, with the labels of the number that it is written for
pub record Written : Type 0 where
  pub byte : ℕ
  pub labels : List Mention

-- one level: its objects under numbers that only grow, the input left, the output, the steps left, the active calls, the frame cost
pub record LevelState : Type 0 where
  pub objects : List Object
  pub input : List ℕ
  pub output : List Written
  pub steps_left : ℕ
  pub active : ℕ
  pub cost : ℕ

-- The state of a run: that of its levels, by their numbers.
abbrev pub State : Type 0
State = List LevelState

-- where a value lies: an object of a level, and the path into it
pub record Place : Type 0 where
  pub level : ℕ
  pub object : ℕ
  pub path : List ℕ

-- a part of what lies at a place
abbrev pub deeper : Place → ℕ → Place
deeper place i = record { level = place.level; object = place.object; path = place.path ++ i ∷ [] }

-- ---- what one level does

-- why a level can't do something: a trap, or an object or a part that isn't there, of which no accepted source speaks
pub data Fault : Type 0 where
  trap : TrapCause → Fault
  no_such_object : Fault

-- All that a computation does to levels it does to one of them: a result and the level as it is then, or a fault.
abbrev pub Deed : Type 0 → Type 0
Deed A = LevelState → Result (A × LevelState) Fault

-- a level at which nothing was done, and which can do nothing
abbrev pub silent : LevelState
silent = record { objects = []; input = []; output = []; steps_left = 0; active = 0; cost = 0 }

abbrev pub level_in : State → ℕ → LevelState
level_in state level = slice_index_or state level silent

abbrev pub with_level : State → ℕ → LevelState → State
with_level state level l = slice_set state level l

-- ---- the deeds

abbrev pub no_object : Object
no_object = record { own = []; value = no_value }

abbrev pub object_in : LevelState → ℕ → Object
object_in l n = slice_index_or l.objects n no_object

-- an object, and a part of it at a path
abbrev pub is_there : LevelState → ℕ → List ℕ → Bool
is_there l n path = nat_lt n (length l.objects) && is_path (object_in l n).value path

unfoldable pub fetch : ℕ → List ℕ → Deed Value
fetch n path l = if is_there l n path then Ok (at_path (object_in l n).value path, l) else Err no_such_object

-- each integer that is stored carries the object's own labels too
abbrev pub stored_in : Object → List ℕ → Value → Object
stored_in o path v = record { own = o.own; value = with_path o.value path (each (carries_too o.own) v) }

unfoldable pub store : ℕ → List ℕ → Value → Deed (Unit {0})
store n path v l =
    if is_there l n path then Ok (tt, record l { objects = slice_set l.objects n (stored_in (object_in l n) path v) })
    else Err no_such_object

-- a fresh object and its number
unfoldable pub make : Object → Deed ℕ
make o l = Ok (length l.objects, record l { objects = l.objects ++ o ∷ [] })

unfoldable pub put_byte : Written → Deed (Unit {0})
put_byte w l = if nat_lt (length l.output) OUTPUT_BYTES then Ok (tt, record l { output = l.output ++ w ∷ [] }) else Err (trap Output)

-- the next byte of the input; -1 at its end
abbrev pub next_of : List ℕ → Deed ℤ
next_of [] l = Ok (negsuc 0, l)
next_of (b ∷ bs) l = Ok (pos b, record l { input = bs })

unfoldable pub get_byte : Deed ℤ
get_byte l = next_of l.input l

unfoldable pub count_step : Deed (Unit {0})
count_step l = if nat_lt 0 l.steps_left then Ok (tt, record l { steps_left = l.steps_left - 1 }) else Err (trap Steps)

unfoldable pub begin_call : Deed (Unit {0})
begin_call l = if nat_lt l.active ACTIVE_CALLS then Ok (tt, record l { active = l.active + 1 }) else Err (trap Depth)

unfoldable pub end_call : Deed (Unit {0})
end_call l = Ok (tt, record l { active = l.active - 1 })

unfoldable pub pay : ℕ → Deed (Unit {0})
pay cost l = if nat_le (l.cost + cost) FRAME_COST then Ok (tt, record l { cost = l.cost + cost }) else Err (trap Frames)
