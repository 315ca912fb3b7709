-- What a computation comes to: a result, a stop, or a call of another level with all that may follow its reply.
use Rattle.std.specs.Prelude.{ℕ, ℤ, List, [], length, nat_lt, Option, Result, Ok, Err, if◌then◌else◌}
use Rattle.cl_tree.specs.declared.kinds.TrapCause.{TrapCause}
use Rattle.cl_mean.specs.declared.outcome.Trap.{Trap}
use Rattle.cl_mean.specs.declared.labels.Entry.{Entry}
use Rattle.cl_mean.specs.Value.{Labelled, Value, number, parts}
use Rattle.cl_mean.specs.State.{LevelState, State, Place, Fault, trap, no_such_object, Deed, level_in, with_level, fetch, store, make}
use Rattle.cl_mean.specs.Source.{Definition}

-- ---- courses

-- why a computation stops before its end
pub data Stop : Type 0 where
  -- a trap at a level
  traps : ℕ → Trap → Stop
  -- the bound on rounds and calls is met, which the steps left exclude
  unbounded : Stop
  -- what no accepted source does
  meaningless : Stop

-- a call of another level: the level that makes it, the number of its row, the function that is called, the request's integers
pub record Ask : Type 0 where
  pub from : ℕ
  pub row : ℕ
  pub callee : Definition
  pub entry : Entry
  pub values : List Labelled

-- what comes back to a level that asked: the reply's integers, or None where the call was blocked
abbrev pub Reply : Type 0
Reply = Option (List Labelled)

-- A course says what a computation comes to, each time with the state as it is then. Where it asks another level, it
-- says for each reply, and for each state that the reply may find, how it goes on: what the other level does is no
-- part of it.
pub data Course (A : Type 0) : Type 0 where
  comes : A → State → Course A
  stops : Stop → State → Course A
  asks : Ask → State → (Reply → State → Course A) → Course A

-- ---- computations

-- a computation takes a state to a course
abbrev pub Computation : Type 0 → Type 0
Computation A = State → Course A

-- a course, and then the computation that its result chooses
abbrev pub goes_to : {A B : Type 0} → (A → Computation B) → Course A → Course B
goes_to next (comes x state) = next x state
goes_to next (stops stop state) = stops stop state
goes_to next (asks a state rest) = asks a state (λ reply now. goes_to next (rest reply now))

-- a computation, and then the one that its result chooses
infixl 30 ◌>>=◌
abbrev pub ◌>>=◌ : {A B : Type 0} → Computation A → (A → Computation B) → Computation B
first >>= next = λ state. goes_to next (first state)

infixl 30 ◌>>◌
abbrev pub ◌>>◌ : {A B : Type 0} → Computation A → Computation B → Computation B
first >> next = first >>= λ _. next

abbrev pub pure : {A : Type 0} → A → Computation A
pure x = comes x

abbrev pub halted : {A : Type 0} → Stop → Computation A
halted stop = stops stop

abbrev pub trapped : {A : Type 0} → ℕ → TrapCause → ℕ → Computation A
trapped level cause line = halted (traps level (record { cause = cause; line = line }))

-- the integer that a value is
abbrev pub the_number : Value → Computation Labelled
the_number (number x) = pure x
the_number (parts vs) = halted meaningless

-- a level asks another one, and goes on with what comes back
abbrev pub asking : Ask → Computation Reply
asking a = λ state. asks a state comes

-- the value of an operator, or its trap at a line
abbrev pub lifted : ℕ → ℕ → Result ℤ TrapCause → Computation ℤ
lifted level line (Ok n) = pure n
lifted level line (Err cause) = trapped level cause line

-- ---- deeds as computations

-- how a computation stops where a level can't do something
abbrev pub stop_by : ℕ → ℕ → Fault → Stop
stop_by level line (trap cause) = traps level (record { cause = cause; line = line })
stop_by level line no_such_object = meaningless

abbrev pub done : {A : Type 0} → ℕ → ℕ → State → Result (A × LevelState) Fault → Course A
done level line state (Ok r) = comes r.0 (with_level state level r.1)
done level line state (Err fault) = stops (stop_by level line fault) state

-- A deed of a level that is there; if it traps, at a line. No computation looks at a state in another way than by this.
unfoldable pub within : {A : Type 0} → ℕ → ℕ → Deed A → Computation A
within level line deed = λ state. if nat_lt level (length state) then done level line state (deed (level_in state level)) else stops meaningless state

abbrev pub fetched : Place → Computation Value
fetched place = within place.level 0 (fetch place.object place.path)

abbrev pub stored : Place → Value → Computation (Unit {0})
stored place v = within place.level 0 (store place.object place.path v)

-- a fresh object of a level
abbrev pub made : ℕ → Value → Computation Place
made level v = within level 0 (make (record { own = []; value = v })) >>= λ n. pure (record { level = level; object = n; path = [] })

-- ---- where a course has got to

-- the state at its end, or where it asks
abbrev pub state_of : {A : Type 0} → Course A → State
state_of (comes x state) = state
state_of (stops stop state) = state
state_of (asks a state rest) = state
