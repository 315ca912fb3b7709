-- The numbers of a table of labels are those of something that it has.
use Rattle.std.specs.Prelude.{ℕ, ◌<◌, List, length, All, Option, Some, None}
use Rattle.cl_mean.specs.declared.labels.Mention.{Mention}
use Rattle.cl_mean.specs.declared.labels.Mention.TheVariants.{Label, Level}
use Rattle.cl_mean.specs.declared.labels.Taints.{Taints}
use Rattle.cl_mean.specs.declared.labels.LabelFact.{LabelFact}
use Rattle.cl_mean.specs.declared.labels.LabelTable.{LabelTable}

-- a level of the table
abbrev pub LevelWithin : LabelTable → ℕ → Type 0
LevelWithin table level = level < length table.levels

-- a label of the table, or none
abbrev pub MaybeWithin : LabelTable → Option ℕ → Type 0
MaybeWithin table None = Unit {0}
MaybeWithin table (Some k) = k < length table.labels

-- a name of a taint list: a label of the table, or the default label of one of its levels
abbrev pub MentionWithin : LabelTable → Mention → Type 0
MentionWithin table (Label k) = k < length table.labels
MentionWithin table (Level level) = LevelWithin table level

abbrev pub MentionsWithin : LabelTable → List Mention → Type 0
MentionsWithin table ms = All (MentionWithin table) ms

pub record AllMentionsWithin (table : LabelTable) (t : Taints) : Type 0 where
  pub args : All (λ a. MentionsWithin table a.all) t.args
  pub code : MentionsWithin table t.code
  pub result : MentionsWithin table t.result

abbrev pub TaintsWithin : LabelTable → Option Taints → Type 0
TaintsWithin table None = Unit {0}
TaintsWithin table (Some t) = AllMentionsWithin table t

-- A label's level, the levels that it has entries for and what its taints name are of the table.
pub record LabelWithin (table : LabelTable) (label : LabelFact) : Type 0 where
  pub level : LevelWithin table label.level
  pub remotes : All (λ e. LevelWithin table e.remote) label.entries
  pub taints : TaintsWithin table label.taints
