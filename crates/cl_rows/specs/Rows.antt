-- Rows of calls across levels, by the levels and the functions before a place.
use Rattle.std.specs.Prelude.{◌≡◌, ◌⊎◌, ◌<◌, ◌≤◌, ℕ, List, [], Contains, true, false, Some, None, slice_get}
use Rattle.cl_mean.specs.declared.checked.GedlRow.{GedlRow}
use Rattle.cl_mean.specs.declared.checked.Levels.{Levels}
use Rattle.cl_mean.specs.declared.checked.Typed.{Typed}
use Rattle.cl_mean.specs.declared.labels.Entry.{Entry}
use Rattle.cl_mean.specs.declared.labels.LabelFact.{LabelFact}
use Rattle.cl_mean.specs.declared.labels.LabelTable.{LabelTable}
use Rattle.cl_mean.specs.Judging.{entry_for}
use Rattle.cl_mean.specs.Shape.{structs_of}
use Rattle.cl_mean.specs.Source.{entries_of}
use Rattle.cl_labelling.specs.Fits.{Signature}
use Rattle.cl_levels.specs.declared.uses.Call.{Call}
use Rattle.cl_levels.specs.Crossings.{Sorted, args_of}
use Rattle.cl_calls.specs.Calls.{level_at, label_for}
use Rattle.cl_calls.specs.Signatures.{signatures_in}
use Rattle.cl_rows.specs.Wide.{size_in}

-- all that a row says of the function is there, and its payloads aren't wide
pub record IsReady (typed : Typed) (labels : LabelTable) (from f : ℕ) : Type 0 where
  pub label : label_for labels f ≡ None → ⊥
  pub entry : entry_for (entries_of (label_for labels f)) from ≡ None → ⊥
  pub signature : signatures_in typed f ≡ [] → ⊥
  pub request : size_in (structs_of typed.program.items) (signatures_in typed f) false ≤ 4096
  pub reply : size_in (structs_of typed.program.items) (signatures_in typed f) true ≤ 4096

-- a row says this of the function that a level calls
pub record IsFilled (typed : Typed) (labels : LabelTable) (from to f : ℕ) (r : GedlRow) : Type 0 where
  pub from_is : r.from ≡ from
  pub to_is : r.to ≡ to
  pub function_is : r.function ≡ f
  pub entry : (e : Entry) × ((entry_for (entries_of (label_for labels f)) from ≡ Some e) × ((r.operation ≡ e.operation) × (r.oneway ≡ e.oneway)))
  pub signature : (s : Signature) × ((slice_get (signatures_in typed f) 0 ≡ Some s) × ((r.name ≡ s.name) × ((r.args ≡ args_of s.params) × (r.result ≡ s.result))))
  pub label : (l : LabelFact) × ((label_for labels f ≡ Some l) × (r.label ≡ l.name))
  pub request : r.request ≡ size_in (structs_of typed.program.items) (signatures_in typed f) false
  pub reply : r.reply ≡ size_in (structs_of typed.program.items) (signatures_in typed f) true

-- two levels and a function stand before others
abbrev pub Earlier : ℕ → ℕ → ℕ → ℕ → ℕ → ℕ → Type 0
Earlier a b g from to f = (a < from) ⊎ ((a ≡ from) × ((b < to) ⊎ ((b ≡ to) × (g < f))))

abbrev pub CallBefore : Levels → ℕ → ℕ → ℕ → Call → Type 0
CallBefore levels from to f c = Earlier (level_at levels c.caller) (level_at levels c.callee) c.callee from to f

-- a row is that of a call
pub record IsOf (levels : Levels) (c : Call) (r : GedlRow) : Type 0 where
  pub from : r.from ≡ level_at levels c.caller
  pub to : r.to ≡ level_at levels c.callee
  pub function : r.function ≡ c.callee

-- the rows of the calls before a place
pub record RowsBefore (typed : Typed) (labels : LabelTable) (levels : Levels) (cs : List Call) (from to f : ℕ) (rows : List GedlRow) : Type 0 where
  pub sorted : Sorted rows
  pub early : (r : GedlRow) → Contains rows r → Earlier r.from r.to r.function from to f
  pub sound : (r : GedlRow) → Contains rows r → IsFilled typed labels r.from r.to r.function r × ((c : Call) × (Contains cs c × IsOf levels c r))
  pub complete : (c : Call) → Contains cs c → CallBefore levels from to f c → (r : GedlRow) × (Contains rows r × IsOf levels c r)
