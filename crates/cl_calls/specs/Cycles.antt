-- Cycles of calls across levels, and the pairs of levels that such calls have.
use Rattle.std.specs.Prelude.{◌≡◌, ◌⊎◌, ◌<◌, ◌+◌, ◌*◌, ℕ, suc, List, Bool, true, false, All, Contains, Some, slice_get, slice_index_or, take, Result, Ok, Err}
use Rattle.cl_mean.specs.declared.checked.Levels.{Levels}
use Rattle.cl_reach.specs.declared.graph.Edge.{Edge}
use Rattle.cl_reach.specs.Reach.{HasEdge, Reaches, edge}
use Rattle.cl_scope.specs.declared.stop.Stop.{Stop}
use Rattle.cl_scope.specs.declared.stop.Stop.TheVariants.{At, NoMemory}
use Rattle.cl_levels.specs.declared.uses.Call.{Call}
use Rattle.cl_levels.specs.Placed.{Places, Holds, IsFirst}
use Rattle.cl_calls.specs.Calls.{level_at}

-- No place, the first one's line, or nothing where memory ran out.
abbrev pub Answers : Result (Unit {0}) Stop → Places → Type 0
Answers (Ok x) places = Holds places
Answers (Err (At line)) places = IsFirst places line
Answers (Err NoMemory) places = Unit {0}

-- one of these calls leads from a level to another
abbrev pub Leads : Levels → List Call → ℕ → ℕ → Type 0
Leads levels cs from to = (c : Call) × (Contains cs c × ((level_at levels c.caller ≡ from) × (level_at levels c.callee ≡ to)))

abbrev pub Circles : Levels → List Call → Type 0
Circles levels cs = (from : ℕ) × ((to : ℕ) × (Leads levels cs from to × Reaches (Leads levels cs) (λ x. x ≡ to) from))

abbrev pub cycle_at : Levels → List Call → Places
cycle_at levels cs position line =
    (c : Call) × ((slice_get cs position ≡ Some c) × ((c.line ≡ line) × Circles levels (take (suc position) cs)))

-- ---- pairs of levels

abbrev pub pair_of : Levels → Call → Edge
pair_of levels c = edge (level_at levels c.caller) (level_at levels c.callee)

abbrev pub IsPair : Edge → Type 0
IsPair e = (e.from < 32) × (e.to < 32)

abbrev pub ArePairs : List Edge → Type 0
ArePairs es = All IsPair es

-- where a place is marked, a pair of that place is there
abbrev pub AreSeen : List Edge → List Bool → Type 0
AreSeen es seen = (k : ℕ) → slice_index_or seen k false ≡ true → (e : Edge) × (Contains es e × (k ≡ e.from * 32 + e.to))

-- edges lead from where a pair leads back to where it comes from
abbrev pub Closes : List Edge → Edge → Type 0
Closes es pair = Reaches (HasEdge es) (λ x. x ≡ pair.to) pair.from

-- a pair came to others and closed no cycle, unless it was there already
pub record Joins (old : List Edge) (pair : Edge) (new : List Edge) : Type 0 where
  pub pairs : All IsPair new
  pub only : (e : Edge) → Contains new e → Contains old e ⊎ (e ≡ pair)
  pub kept : (e : Edge) → Contains old e → Contains new e
  pub there : Contains new pair
  pub fine : Contains old pair ⊎ (Closes old pair → ⊥)
