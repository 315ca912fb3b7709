-- The labels of nodes in lists.
use Rattle.std.specs.Prelude.{◌≡◌, ◌↔◌, ◌<◌, ◌+◌, ◌/◌, ℕ, List, length, slice_index_or, Contains}
use Rattle.cl_mean.specs.declared.checked.Carried.{Carried}
use Rattle.cl_mean.specs.declared.labels.Mention.{Mention}
use Rattle.cl_mean.specs.declared.labels.Mention.TheVariants.{Label, Level}
use Rattle.cl_reach.specs.Reach.{Bears}
use Rattle.cle_ways.specs.Flow.{Sorted, none_carried}
use Rattle.cle_table.specs.Numbers.{label_number}

-- a label below a number, or that of a level below another
abbrev pub Below : ℕ → ℕ → Mention → Type 0
Below a b (Label k) = k < a
Below a b (Level k) = k < b

-- the labels of a node up to these numbers
pub record IsListed (bits : List (List ℕ)) (node a b : ℕ) (labels : List Mention) : Type 0 where
  pub sorted : Sorted labels
  pub exact : (m : Mention) → Contains labels m ↔ (Below a b m × Bears bits (label_number m) node)

-- all labels of a node, where so many numbers of labels are in use
abbrev pub IsList : List (List ℕ) → ℕ → ℕ → List Mention → Type 0
IsList bits count node labels = IsListed bits node ((count + 1) / 2) (count / 2) labels

pub record AreLists (bits : List (List ℕ)) (count nodes : ℕ) (lists : List Carried) : Type 0 where
  pub same_length : length lists ≡ nodes
  pub each : (node : ℕ) → node < nodes → IsList bits count node (slice_index_or lists node none_carried).labels
