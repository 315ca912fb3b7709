-- The outside of the program: files and sinks that count their faults and may tell what they hold.
use Rattle.std.specs.Prelude.{◌≡◌, ◌≢◌, ℕ, ◌+◌, ◌-◌, ◌^◌, ◌≤◌, ◌<◌, min, List, ◌++◌, length, take, Option, None, Some, Result, Ok, Err, IsSome, IsNone, IsSomeAnd, OnOk, bytes_eq}
use Rattle.std.specs.Map.{lookup}

-- a count rose, or it stands at the greatest u64
abbrev pub Rose : ℕ → ℕ → Type 0
Rose before now = min (before + 1) (2 ^ 64 - 1) ≤ now

-- a count of faults never falls; it rises where the call failed, and stands at every other answer
pub record Counts (failed : Type 0) (before now : ℕ) : Type 0 where
  pub later : before ≤ now
  pub rose : failed → Rose before now
  pub stands : ¬ failed → now ≡ before

-- paths with their bytes; of two with one path the first counts
abbrev pub Held : Type 0
Held = List (List ℕ × List ℕ)

-- the bytes of the file at a path, if there is one
abbrev pub file_of : Held → List ℕ → Option (List ℕ)
file_of files path = lookup (bytes_eq path) files

-- every file but the one at this path stands
abbrev pub OthersStand : List ℕ → Held → Held → Type 0
OthersStand path before now = (other : List ℕ) → other ≢ path → file_of now other ≡ file_of before other

-- the file at this path holds these bytes now, and every other file stands
abbrev pub IsWritten : List ℕ → List ℕ → Held → Held → Type 0
IsWritten path bytes before now = (file_of now path ≡ Some bytes) × OthersStand path before now

-- the file at a path is there, and is longer than the limit
abbrev pub IsLonger : ℕ → List ℕ → Held → Type 0
IsLonger limit path files = IsSomeAnd (file_of files path) (λ bytes. limit < length bytes)

-- after a write of these bytes to this path, where the files are told: every other file stands, and at Ok this one
-- holds the bytes
abbrev pub Wrote : {E : Type 0} → List ℕ → List ℕ → Option Held → Option Held → Result (Unit {0}) E → Type 0
Wrote path bytes None now result = now ≡ None
Wrote path bytes (Some before) None result = ⊥
Wrote path bytes (Some before) (Some now) result = OthersStand path before now × OnOk result (file_of now path ≡ Some bytes)

-- the path of the last failed call is told where the files are
pub record Notes (failed : Type 0) (path : List ℕ) (files : Option Held) (before now : Option (List ℕ)) : Type 0 where
  pub noted : failed → IsSome files → now ≡ Some path
  pub untold : IsNone files → now ≡ before
  pub stands : ¬ failed → now ≡ before

-- after a put, where the bytes are told: the whole piece stands behind them at Ok, and some prefix of it else
abbrev pub Appended : {E : Type 0} → List ℕ → Option (List ℕ) → Option (List ℕ) → Result (Unit {0}) E → Type 0
Appended piece None now result = now ≡ None
Appended piece (Some before) now (Ok _) = now ≡ Some (before ++ piece)
Appended piece (Some before) now (Err _) = (kept : ℕ) × (kept ≤ length piece) × (now ≡ Some (before ++ take kept piece))
