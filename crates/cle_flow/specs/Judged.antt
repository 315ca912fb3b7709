-- What exceeds its bound.
use Rattle.std.specs.Prelude.{◌≡◌, ℕ, List, Contains}
use Rattle.cl_mean.specs.declared.labels.Mention.{Mention}
use Rattle.cl_levels.specs.Crossings.{Levelled}
use Rattle.cle_ways.specs.declared.ways.Admitted.{Admitted}
use Rattle.cle_ways.specs.declared.ways.Bound.{Bound}
use Rattle.cle_ways.specs.declared.ways.Note.{Note}
use Rattle.cle_ways.specs.declared.ways.Note.TheVariants.{Bounds}
use Rattle.cle_ways.specs.declared.ways.Origin.{Origin}
use Rattle.cle_ways.specs.Ways.{notes_of}
use Rattle.cle_ways.specs.Carries.{Carries, Gives, AnyGives}
use Rattle.cle_ways.specs.Flow.{Admits, Exceeds}
use Rattle.cle_table.specs.Exact.{IsExact}
use Rattle.cle_flow.specs.declared.bounds.Judge.{Judge}
use Rattle.cle_flow.specs.Admissions.{admissions}

-- The tables are those of the program: of what is carried, and of what is admitted.
pub record Knows (judge : Judge) : Type 0 where
  pub carried : IsExact (notes_of judge.program) judge.carried
  pub admitted : IsExact (admissions judge.program) judge.admitted

-- a label among some isn't admitted
abbrev pub OneRefused : Levelled → Admitted → List Mention → Type 0
OneRefused l a ms = (m : Mention) × (Contains ms m × (Admits l a m → ⊥))

-- an origin gives a label that isn't admitted
abbrev pub OriginExceeds : Levelled → Admitted → Origin → Type 0
OriginExceeds l a o = (m : Mention) × (Gives (Carries (notes_of l)) o m × (Admits l a m → ⊥))

-- one of some origins does
abbrev pub OneExceeds : Levelled → Admitted → List Origin → Type 0
OneExceeds l a os = (m : Mention) × (AnyGives (notes_of l) os m × (Admits l a m → ⊥))

-- at this line the rule fails for a bound that is among the notes
abbrev pub Broken : Levelled → ℕ → List Note → ℕ → Type 0
Broken l rule notes line = (b : Bound) × (Contains notes (Bounds b) × ((b.rule ≡ rule) × ((b.line ≡ line) × Exceeds l b)))
