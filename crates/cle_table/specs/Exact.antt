-- The labels that each holder carries, in a table.
use Rattle.std.specs.Prelude.{◌↔◌, ◌≡◌, ◌<◌, map, length, ℕ, List, [], ◌++◌, Option, Some, None, slice_index_or}
use Rattle.std.specs.List.{flat_map}
use Rattle.cl_mean.specs.declared.labels.Mention.{Mention}
use Rattle.cl_reach.specs.Reach.{Bears}
use Rattle.cle_ways.specs.declared.ways.Holder.{Holder}
use Rattle.cle_ways.specs.declared.ways.Note.{Note}
use Rattle.cle_ways.specs.Carries.{Carries}
use Rattle.cle_ways.specs.Flow.{IsCarried, none_carried, locals_at}
use Rattle.cle_ways.specs.declared.ways.Body.{Body}
use Rattle.cle_ways.specs.declared.ways.Holder.TheVariants.{Local}
use Rattle.cl_mean.specs.declared.checked.Carried.{Carried}
use Rattle.cl_mean.specs.declared.checked.CarriedLocals.{CarriedLocals}
use Rattle.cle_walk.specs.declared.program.Notes.{Notes}
use Rattle.cle_table.specs.declared.table.Table.{Table}
use Rattle.cle_table.specs.Numbers.{number_of, label_number}

-- all that is noted of a program
abbrev pub noted : Notes → List Note
noted n = n.objects ++ flat_map (λ b. b.notes) n.functions

abbrev pub list_at : Table → Option ℕ → List Mention
list_at t None = []
list_at t (Some n) = (slice_index_or t.lists n none_carried).labels

-- the list of a holder
abbrev pub labels_in : Table → Holder → List Mention
labels_in t x = list_at t (number_of t.nodes x)

abbrev pub HoldsAt : Table → Option ℕ → Mention → Type 0
HoldsAt t None m = ⊥
HoldsAt t (Some n) m = Bears t.bits (label_number m) n

-- the bits of a holder have a label
abbrev pub Holds : Table → Holder → Mention → Type 0
Holds t x m = HoldsAt t (number_of t.nodes x) m

-- Bits and lists have just what is carried.
pub record IsExact (notes : List Note) (t : Table) : Type 0 where
  pub held : (x : Holder) (m : Mention) → Holds t x m ↔ Carries notes x m
  pub listed : (x : Holder) → IsCarried notes x (labels_in t x)

-- a list of what so many holders carry
pub record CarriedBy (t : Table) (holder : ℕ → Holder) (count : ℕ) (all : List Carried) : Type 0 where
  pub same_length : length all ≡ count
  pub each : (k : ℕ) → k < count → (slice_index_or all k none_carried).labels ≡ labels_in t (holder k)

pub record LocalsBy (t : Table) (functions : List Body) (all : List CarriedLocals) : Type 0 where
  pub same_length : length all ≡ length functions
  pub each : (f : ℕ) → f < length functions → CarriedBy t (Local f) (slice_index_or (map (λ b. b.locals) functions) f 0) (locals_at all f)
