-- The label flow of a program, and the rules E31 to E34 on it.
use Rattle.std.specs.Prelude.{ℕ, ◌≡◌, ◌<◌, ◌⊎◌, ◌↔◌, List, [], ◌∷◌, map, length, Option, Some, None, slice_index_or, Contains}
use Rattle.cl_mean.specs.declared.checked.Carried.{Carried}
use Rattle.cl_mean.specs.declared.checked.CarriedLocals.{CarriedLocals}
use Rattle.cl_mean.specs.declared.checked.Flow.{Flow}
use Rattle.cl_mean.specs.declared.labels.Mention.{Mention}
use Rattle.cl_mean.specs.declared.labels.Mention.TheVariants.{Label, Level}
use Rattle.cl_mean.specs.declared.labels.Mentions.{Mentions}
use Rattle.cl_mean.specs.declared.labels.Taints.{Taints}
use Rattle.cl_mean.specs.Source as source
use Rattle.cl_levels.specs.Crossings.{Levelled}
use Rattle.cl_levels.specs.Placed.{Places, PlacedRule, placed}
use Rattle.cle_ways.specs.declared.ways.Holder.{Holder}
use Rattle.cle_ways.specs.declared.ways.Holder.TheVariants.{Object, Local, Result}
use Rattle.cle_ways.specs.declared.ways.Admitted.{Admitted}
use Rattle.cle_ways.specs.declared.ways.Admitted.TheVariants.{Argument, Body, OfLevel, Own}
use Rattle.cle_ways.specs.declared.ways.Bound.{Bound}
use Rattle.cle_ways.specs.declared.ways.Note.{Note}
use Rattle.cle_ways.specs.declared.ways.Note.TheVariants.{Bounds}
use Rattle.cle_ways.specs.Ways.{taints_at, bodies_of, notes_of}
use Rattle.cle_ways.specs.Carries.{Carries, AnyGives}

-- ---- what is admitted

abbrev pub InArguments : List Mentions → Mention → Type 0
InArguments args m = (ms : Mentions) × (Contains args ms × Contains ms.all m)

-- one of the taints of a function
abbrev pub InTaints : Taints → Mention → Type 0
InTaints t m = InArguments t.args m ⊎ (Contains t.code m ⊎ Contains t.result m)

abbrev pub WithTaints : Option Taints → (Taints → Type 0) → Type 0
WithTaints None P = ⊥
WithTaints (Some t) P = P t

abbrev pub Admits : Levelled → Admitted → Mention → Type 0
Admits l (Argument f k) m = WithTaints (taints_at l f) (λ t. Contains (slice_index_or t.args k source.no_mentions).all m)
Admits l (Body f) m = WithTaints (taints_at l f) (λ t. InTaints t m)
Admits l (OfLevel level) m = source.level_of l.annotated.labels.labels m ≡ Some level
Admits l (Own label) m = Label label ≡ m

-- What is bounded carries a label that isn't admitted.
abbrev pub Exceeds : Levelled → Bound → Type 0
Exceeds l b = (m : Mention) × (AnyGives (notes_of l) b.origins m × (Admits l b.admitted m → ⊥))

-- ---- the rules

-- A rule fails at the line of each place that exceeds its bound. The lines of the source rise, so the place that is first there is
-- one of the least line.
abbrev pub exceeded : ℕ → Levelled → Places
exceeded rule l position line =
    (position ≡ line) × ((b : Bound) × (Contains (notes_of l) (Bounds b) × ((b.rule ≡ rule) × ((b.line ≡ line) × Exceeds l b))))

-- E31 to E34: a label on an argument, on a store, in a body, on output
abbrev pub flow_rules : Levelled → List PlacedRule
flow_rules l = placed 31 (exceeded 31 l) ∷ placed 32 (exceeded 32 l) ∷ placed 33 (exceeded 33 l) ∷ placed 34 (exceeded 34 l) ∷ []

-- ---- the label flow

-- Labels come by their numbers, and the labels of levels behind them.
abbrev pub Before : Mention → Mention → Type 0
Before (Label a) (Label b) = a < b
Before (Label a) (Level b) = Unit {0}
Before (Level a) (Label b) = ⊥
Before (Level a) (Level b) = a < b

unfoldable pub Sorted : List Mention → Type 0
Sorted [] = Unit {0}
Sorted (m ∷ ms) = ((n : Mention) → Contains ms n → Before m n) × Sorted ms

-- a sorted list of just the labels that a holder carries
pub record IsCarried (notes : List Note) (x : Holder) (labels : List Mention) : Type 0 where
  pub sorted : Sorted labels
  pub exact : (m : Mention) → Contains labels m ↔ Carries notes x m

abbrev pub none_carried : Carried
none_carried = record { labels = [] }

abbrev pub AreCarried : List Note → (ℕ → Holder) → List Carried → Type 0
AreCarried notes holder all = (k : ℕ) → k < length all → IsCarried notes (holder k) (slice_index_or all k none_carried).labels

abbrev pub no_locals : CarriedLocals
no_locals = record { locals = [] }

abbrev pub locals_at : List CarriedLocals → ℕ → List Carried
locals_at all f = (slice_index_or all f no_locals).locals

-- what so many objects, the locals of functions and their results carry
pub record AreFlows (notes : List Note) (count : ℕ) (counts : List ℕ) (flow : Flow) : Type 0 where
  pub objects : length flow.objects ≡ count
  pub of_objects : AreCarried notes Object flow.objects
  pub functions : length flow.locals ≡ length counts
  pub locals : (f : ℕ) → f < length counts → length (locals_at flow.locals f) ≡ slice_index_or counts f 0
  pub of_locals : (f : ℕ) → f < length counts → AreCarried notes (Local f) (locals_at flow.locals f)
  pub results : length flow.results ≡ length counts
  pub of_results : AreCarried notes Result flow.results

-- what a program's variables and results carry
abbrev pub IsFlow : Levelled → Flow → Type 0
IsFlow l flow = AreFlows (notes_of l) (length l.annotated.typed.objects) (map (λ b. b.locals) (bodies_of l)) flow
