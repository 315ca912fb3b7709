-- Which labels the variables and results of a program carry.
use Rattle.std.specs.Prelude.{ℕ, zero, suc, ◌≡◌, ◌⊎◌, List, Contains}
use Rattle.cl_mean.specs.declared.labels.Mention.{Mention}
use Rattle.cle_ways.specs.declared.ways.Holder.{Holder}
use Rattle.cle_ways.specs.declared.ways.Origin.{Origin}
use Rattle.cle_ways.specs.declared.ways.Origin.TheVariants.{Just, AllOf}
use Rattle.cle_ways.specs.declared.ways.Note.{Note}
use Rattle.cle_ways.specs.declared.ways.Note.TheVariants.{Flows}
use Rattle.cle_ways.specs.Ways.{way}

-- what an origin gives, where it is known what holders carry
abbrev pub Gives : (Holder → Mention → Type 0) → Origin → Mention → Type 0
Gives Held (Just label) m = label ≡ m
Gives Held (AllOf x) m = Held x m

-- A holder carries a label within n steps: each is one way.
abbrev pub CarriesWithin : List Note → ℕ → Holder → Mention → Type 0
CarriesWithin notes zero x m = ⊥
CarriesWithin notes (suc n) x m =
    CarriesWithin notes n x m ⊎ ((o : Origin) × (Contains notes (Flows (way o x)) × Gives (CarriesWithin notes n) o m))

-- a holder carries a label
abbrev pub Carries : List Note → Holder → Mention → Type 0
Carries notes x m = (n : ℕ) × CarriesWithin notes n x m

-- an expression carries a label: one of its origins gives it
abbrev pub AnyGives : List Note → List Origin → Mention → Type 0
AnyGives notes origins m = (o : Origin) × (Contains origins o × Gives (Carries notes) o m)
