-- The state of a run, and what a step of meaning does to it.
use Rattle.std.specs.Prelude.{ℕ, List, [], ◌∷◌, ◌++◌, slice_index_or, slice_set, Result, Ok, Err, ℤ, pos}
use Rattle.cl_tree.specs.declared.kinds.IntKind.TheVariants.{I32}
use Rattle.cl_tree.specs.declared.kinds.TrapCause.{TrapCause}
use Rattle.cl_run.specs.declared.state.Context.{Context}
use Rattle.cl_run.specs.declared.state.LevelState.{LevelState}
use Rattle.cl_run.specs.declared.state.Object.{Object}
use Rattle.cl_run.specs.declared.state.State.{State}
use Rattle.cl_mean.specs.declared.outcome.Trap.{Trap}

-- a level at which nothing was done yet
abbrev pub silent : LevelState
silent = record { output = []; cost = 0 }

-- the output of a level
abbrev pub output_at : List LevelState → ℕ → List ℕ
output_at levels level = (slice_index_or levels level silent).output

-- the frame cost of a level so far
abbrev pub cost_at : List LevelState → ℕ → ℕ
cost_at levels level = (slice_index_or levels level silent).cost

-- the levels with one more byte in the output of one of them
abbrev pub with_byte : List LevelState → ℕ → ℕ → List LevelState
with_byte levels level byte = slice_set levels level (record { output = output_at levels level ++ byte ∷ []; cost = cost_at levels level })

-- the levels with another frame cost at one of them
abbrev pub with_cost : List LevelState → ℕ → ℕ → List LevelState
with_cost levels level cost = slice_set levels level (record { output = output_at levels level; cost = cost })

abbrev pub no_object : Object
no_object = record { level = 0; kind = I32; number = pos 0 }

-- the objects with another number in one of them
abbrev pub with_number : List Object → ℕ → ℤ → List Object
with_number objects place n =
    slice_set objects place (record { level = (slice_index_or objects place no_object).level; kind = (slice_index_or objects place no_object).kind; number = n })

-- how a run was stopped: the level that trapped, the trap, and the state that it left
pub record Halt : Type 0 where
  pub level : ℕ
  pub trap : Trap
  pub state : State

-- a step of meaning takes a state to a result and a state, or to a trap
abbrev pub Step : Type 0 → Type 0
Step A = State → Result (A × State) Halt

abbrev pub goes_to : {A B : Type 0} → (A → Step B) → Result (A × State) Halt → Result (B × State) Halt
goes_to next (Ok r) = next r.0 r.1
goes_to next (Err halt) = Err halt

-- the first step, and then the one that its result chooses
infixl 30 ◌>>=◌
abbrev pub ◌>>=◌ : {A B : Type 0} → Step A → (A → Step B) → Step B
step >>= next = λ state. goes_to next (step state)

-- a result that leaves the state
abbrev pub pure : {A : Type 0} → A → Step A
pure x = λ state. Ok (x, state)

abbrev pub trapped : {A : Type 0} → Context → TrapCause → ℕ → Step A
trapped context cause line = λ state. Err (record { level = context.level; trap = record { cause = cause; line = line }; state = state })

-- the value of an operator, or its trap at a line
abbrev pub lifted : Context → ℕ → Result ℤ TrapCause → Step ℤ
lifted context line (Ok n) = pure n
lifted context line (Err cause) = trapped context cause line
