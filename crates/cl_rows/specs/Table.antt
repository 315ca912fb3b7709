-- The table from which rows are made.
use Rattle.std.specs.Prelude.{◌≡◌, ◌<◌, ◌≤◌, ◌+◌, ◌*◌, ℕ, List, All, Contains}
use Rattle.cl_mean.specs.declared.checked.GedlRow.{GedlRow}
use Rattle.cl_levels.specs.declared.uses.Call.{Call}
use Rattle.cl_calls.specs.Calls.{level_at}
use Rattle.cl_rows.specs.declared.rows.Table.{Table}
use Rattle.cl_rows.specs.Bytes.{IsKnown}
use Rattle.cl_rows.specs.Marks.{AreMarks, numbers_of}
use Rattle.cl_rows.specs.Rows.{IsReady, RowsBefore}

pub record IsTable (t : Table) : Type 0 where
  pub known : IsKnown t.sources.bytes.now
  pub items : t.sources.bytes.now.items.now ≡ t.sources.typed.now.program.items
  pub levels : All (λ n. n < 32) t.levels.now.of_functions
  pub few : t.count ≤ 4096
  pub callees : All (λ c. c.callee < t.count) t.crossings.now
  pub marks : AreMarks (numbers_of t.levels.now t.crossings.now) t.callers.now
  pub ready : (c : Call) → Contains t.crossings.now c → IsReady t.sources.typed.now t.sources.labels.now (level_at t.levels.now c.caller) c.callee

-- a call across levels leads from a level to a function of a level
abbrev pub Calls : Table → ℕ → ℕ → ℕ → Type 0
Calls t from to f =
    (c : Call) × (Contains t.crossings.now c × ((level_at t.levels.now c.caller ≡ from) × ((level_at t.levels.now c.callee ≡ to) × (c.callee ≡ f))))

abbrev pub RowsOf : Table → ℕ → ℕ → ℕ → List GedlRow → Type 0
RowsOf t from to f rows = RowsBefore t.sources.typed.now t.sources.labels.now t.levels.now t.crossings.now from to f rows
