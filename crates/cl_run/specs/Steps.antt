-- What the runner says of a step of the meaning, and how a run stands between steps.
use Rattle.std.specs.Prelude.{◌≡◌, ℕ, ◌+◌, ◌≤◌, Bool, ℤ, List, [], ◌∷◌, length, Result, Ok, Err}
use Rattle.cl_tree.specs.declared.kinds.IntKind.TheVariants.{I32}
use Rattle.cl_base.specs.declared.limits.TheConstants.{FRAME_COST}
use Rattle.rpc_codec.specs.declared.frame.Header.{Header}
use Rattle.cl_mean.specs.declared.checked.Checked.{Checked}
use Rattle.cl_run.specs.declared.crossing.Crossing.{Crossing}
use Rattle.cl_run.specs.declared.state.State.{State}
use Rattle.cl_run.specs.FormState.{Halt, cost_at}
use Rattle.cl_run.specs.FormCalls.{with_crossing}
use Rattle.cl_mean.specs.Journal.{payload_bytes, typ_of}
use Rattle.cl_run.specs.FormJournal.{journal}
use Rattle.hal_route.specs.Hal.{State as HalState, channels_of}
use Rattle.cl_run.specs.declared.stop.Stop.{Stop}
use Rattle.cl_run.specs.declared.stop.Stop.TheVariants.{Trapped, NoMemory}
use Rattle.cl_run.specs.declared.running.Running.{Running}

-- the result and the state after, or the trap and the state that it left; nothing where memory ran out
abbrev pub IsStep : {A : Type 0} → Result A Stop → State → Result (A × State) Halt → Type 0
IsStep (Ok x) state meant = meant ≡ Ok (x, state)
IsStep (Err (Trapped level trap)) state meant = meant ≡ Err (record { level = level; trap = trap; state = state })
IsStep (Err NoMemory) state meant = Unit {0}

-- nothing crossed and nothing was paid
pub record IsQuiet (before after : State) : Type 0 where
  pub crossings : after.crossings ≡ before.crossings
  pub levels : length after.levels ≡ length before.levels
  pub costs : (level : ℕ) → cost_at after.levels level ≡ cost_at before.levels level

-- How a run stands between steps: the router's journal is that of what crossed, and `main`'s level has paid for it.
pub record Stands (checked : Checked) (run : Running) : Type 0 where
  pub levels : length run.state.levels ≡ length checked.labels.levels
  pub channels : run.hal.channels ≡ channels_of checked.gedl.rows
  pub main : run.hal.main ≡ checked.gedl.main
  pub journal : run.hal.journal ≡ journal checked.gedl.rows run.state.crossings
  pub frames : run.hal.frames ≡ length run.state.crossings
  pub cost : cost_at run.state.levels checked.levels.main ≤ FRAME_COST
  pub room : length run.hal.journal ≤ cost_at run.state.levels checked.levels.main

-- a step after which a run stands: `main`'s level paid for what it added to the journal
pub record Goes (checked : Checked) (before after : Running) : Type 0 where
  pub stands : Stands checked after
  pub paid : length after.hal.journal + cost_at before.state.levels checked.levels.main ≤ length before.hal.journal + cost_at after.state.levels checked.levels.main

-- The router has the rows of a checked source, and room for a frame more.
pub record IsReady (checked : Checked) (hal : HalState) : Type 0 where
  pub channels : hal.channels ≡ channels_of checked.gedl.rows
  pub main : hal.main ≡ checked.gedl.main
  pub room : length hal.journal ≤ FRAME_COST
  pub frames : hal.frames ≤ length hal.journal

-- so many bytes more are paid for
abbrev pub IsPaid : Checked → ℕ → Running → Type 0
IsPaid checked bytes run = length run.hal.journal + bytes ≤ cost_at run.state.levels checked.levels.main

-- the header of a row's request or reply, which is the next frame; all rows are of one pair of levels so far
abbrev pub header_of : HalState → ℕ → Bool → ℕ → ℕ → Header
header_of hal k reply kind bytes = record { mux = 1; sec = 1; typ = typ_of k reply; turn = hal.frames + 1; kind = kind; length = bytes }

-- the payload of one `int`
unfoldable pub int_payload : ℤ → List ℕ
int_payload n = payload_bytes (I32 ∷ []) (n ∷ [])

-- a crossing went through the router, as a frame of so many bytes
pub record Crosses (checked : Checked) (before after : Running) (c : Crossing) (bytes : ℕ) : Type 0 where
  pub state : after.state ≡ with_crossing before.state c
  pub stands : Stands checked after
  pub journal : length after.hal.journal ≡ length before.hal.journal + bytes
