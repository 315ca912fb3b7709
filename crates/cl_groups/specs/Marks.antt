-- The levels that symbols bear once levels went along ties.
use Rattle.std.specs.Prelude.{◌≡◌, ◌⊎◌, ◌≤◌, ◌<◌, ℕ, ◌*◌, ◌+◌, List, length, Option, Some, None, Bool, true, false, min, slice_index_or}
use Rattle.cl_base.specs.declared.limits.TheConstants.{LEVELS}
use Rattle.cl_reach.specs.Reach.{Bears}

-- a node bears no level between two
abbrev pub NoneBetween : List (List ℕ) → ℕ → ℕ → ℕ → Type 0
NoneBetween carried node from to = (level : ℕ) → from ≤ level → level < to → Bears carried level node → ⊥

-- the first level from a number on that a node bears
pub record IsNext (carried : List (List ℕ)) (node from level : ℕ) : Type 0 where
  pub below : level < LEVELS
  pub behind : from ≤ level
  pub borne : Bears carried level node
  pub first : NoneBetween carried node from level

pub record BearsTwo (carried : List (List ℕ)) (node : ℕ) : Type 0 where
  pub one : ℕ
  pub other : ℕ
  pub one_below : one < LEVELS
  pub other_below : other < LEVELS
  pub apart : one ≡ other → ⊥
  pub bears_one : Bears carried one node
  pub bears_other : Bears carried other node

-- a node bears at most one level
abbrev pub BearsOne : List (List ℕ) → ℕ → Type 0
BearsOne carried node = (one other : ℕ) → one < LEVELS → other < LEVELS → Bears carried one node → Bears carried other node → one ≡ other

-- the level of a symbol with this level of its own, if it has one, at this node; a symbol without any has the last one
abbrev pub Stands : List (List ℕ) → Option ℕ → ℕ → ℕ → ℕ → Type 0
Stands carried own node otherwise level =
    (own ≡ Some level) ⊎ ((own ≡ None) × (Bears carried level node ⊎ (NoneBetween carried node 0 LEVELS × (level ≡ otherwise))))

-- the levels of the first symbols of one sort; their nodes are the even or the odd ones
abbrev pub AllStand : List (List ℕ) → List (Option ℕ) → ℕ → ℕ → List ℕ → Type 0
AllStand carried own odd otherwise levels =
    (k : ℕ) → k < length levels → Stands carried (slice_index_or own k None) (2 * k + odd) otherwise (slice_index_or levels k 0)

-- one of the first symbols of one sort is unannotated, bears two levels, and stands at this line
abbrev pub Conflict : List (List ℕ) → List (Option ℕ) → List ℕ → ℕ → ℕ → ℕ → Type 0
Conflict carried own lines odd count line =
    (k : ℕ) × ((k < count) × ((slice_index_or own k None ≡ None) × (BearsTwo carried (2 * k + odd) × (slice_index_or lines k 0 ≡ line))))

-- the least number of a set, if it has one
abbrev pub IsLeast : (ℕ → Type 0) → Option ℕ → Type 0
IsLeast P None = (n : ℕ) → P n → ⊥
IsLeast P (Some least) = P least × ((n : ℕ) → P n → least ≤ n)

abbrev pub lesser_of : Option ℕ → Option ℕ → Option ℕ
lesser_of None b = b
lesser_of (Some x) None = Some x
lesser_of (Some x) (Some y) = Some (min x y)

abbrev pub noted_in : Option ℕ → Bool → ℕ → Option ℕ
noted_in first true line = lesser_of first (Some line)
noted_in first false line = first
