-- Marks of numbers.
use Rattle.std.specs.Prelude.{◌≡◌, ◌↔◌, ◌+◌, ◌*◌, ℕ, List, [], map, length, Bool, true, false, Contains, slice_index_or}
use Rattle.cl_mean.specs.declared.checked.Levels.{Levels}
use Rattle.cl_levels.specs.declared.uses.Call.{Call}
use Rattle.cl_calls.specs.Calls.{level_at}

-- marked are just the numbers of a list
abbrev pub AreMarks : List ℕ → List Bool → Type 0
AreMarks numbers marks = (k : ℕ) → (slice_index_or marks k false ≡ true) ↔ Contains numbers k

-- so many marks, and nothing is marked
abbrev pub IsBlank : ℕ → List Bool → Type 0
IsBlank count marks = (length marks ≡ count) × AreMarks [] marks

-- a number for a call's callee and its caller's level
abbrev pub number : Levels → Call → ℕ
number levels c = c.callee * 32 + level_at levels c.caller

abbrev pub numbers_of : Levels → List Call → List ℕ
numbers_of levels cs = map (number levels) cs

-- the numbers of the calls before a place are marked
abbrev pub MarksBefore : (Call → ℕ) → List Call → ℕ → List Bool → Type 0
MarksBefore of cs count marks = (length marks ≡ count) × AreMarks (map of cs) marks
