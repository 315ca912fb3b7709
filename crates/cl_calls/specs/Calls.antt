-- Calls across levels, by the labels and the levels of functions alone.
use Rattle.std.specs.Prelude.{ℕ, Bool, true, false, not, ◌==◌, List, [], ◌∷◌, Option, None, is_some, slice_index_or}
use Rattle.std.specs.List.{flat_map}
use Rattle.cl_mean.specs.declared.checked.Levels.{Levels}
use Rattle.cl_mean.specs.declared.checked.Typed.{Typed}
use Rattle.cl_mean.specs.declared.labels.Direction.{Direction}
use Rattle.cl_mean.specs.declared.labels.Direction.TheVariants.{Bidirectional}
use Rattle.cl_mean.specs.declared.labels.Entry.{Entry}
use Rattle.cl_mean.specs.declared.labels.LabelFact.{LabelFact}
use Rattle.cl_mean.specs.declared.labels.LabelTable.{LabelTable}
use Rattle.cl_mean.specs.Judging.{entry_for}
use Rattle.cl_mean.specs.Source.{label_at, entries_of}
use Rattle.cl_typing.specs.Rules.{Lines, unless}
use Rattle.cl_levels.specs.declared.uses.Call.{Call}
use Rattle.cl_levels.specs.declared.uses.Use.{Use}
use Rattle.cl_levels.specs.Uses.{each_from}
use Rattle.cl_levels.specs.Crossings.{Levelled, call_in, goes_both_ways}

abbrev pub levelled : Typed → LabelTable → Levels → Levelled
levelled typed labels levels = record { annotated = record { typed = typed; labels = labels }; levels = levels }

abbrev pub calls_in : List (List Use) → List Call
calls_in uses = each_from call_in 0 uses

abbrev pub level_at : Levels → ℕ → ℕ
level_at levels f = slice_index_or levels.of_functions f 0

abbrev pub crosses : Levels → Call → Bool
crosses levels c = not (level_at levels c.caller == level_at levels c.callee)

abbrev pub kept_if : Bool → Call → List Call
kept_if true c = c ∷ []
kept_if false c = []

-- the label of a function
abbrev pub label_for : LabelTable → ℕ → Option LabelFact
label_for labels f = label_at labels.labels (slice_index_or labels.on_functions f None)

-- the entry of the callee's label for the caller's level
abbrev pub entry_of : LabelTable → Levels → Call → Option Entry
entry_of labels levels c = entry_for (entries_of (label_for labels c.callee)) (level_at levels c.caller)

abbrev pub both_ways : Direction → Bool
both_ways Bidirectional = true
both_ways _ = false

unfoldable pub no_entry_in : LabelTable → Levels → List Call → Lines
no_entry_in labels levels cs = flat_map (λ c. unless (is_some (entry_of labels levels c)) c.line) cs

unfoldable pub wrong_direction_in : LabelTable → Levels → List Call → Lines
wrong_direction_in labels levels cs = flat_map (λ c. unless (goes_both_ways (entry_of labels levels c)) c.line) cs
