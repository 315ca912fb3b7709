-- The laws of the guards that are built in, and the values of a frame in the kinds of their places.
use Rattle.std.specs.Prelude.{ℕ, false, ℤ, List, [], ◌∷◌, map, Some, None}
use Rattle.cl_tree.specs.declared.kinds.IntKind.{IntKind}
use Rattle.cl_tree.specs.Arithmetic.{value}
use Rattle.cl_mean.specs.declared.law.Asked.{Asked}
use Rattle.cl_mean.specs.declared.law.Patch.{Patch}
use Rattle.cl_mean.specs.declared.law.GuardAct.TheVariants as act
use Rattle.cl_mean.specs.declared.law.Law.{Law}
use Rattle.cl_mean.specs.Judging.{Judged}
use Rattle.cl_mean.specs.Value.{Labelled}

-- one quota for all requests
abbrev pub ceiling : ℕ → Law
ceiling left = record { rules = record { from = None; to = None; function = None; reply = false; act = act.Quota left } ∷ [] }

-- one veil for one call
abbrev pub veil : Asked → ℕ → Patch → Law
veil asked left patch =
    record { rules = record { from = Some asked.from; to = Some asked.to; function = Some asked.function; reply = asked.reply; act = act.Veil left (patch ∷ []) } ∷ [] }

-- each value in the kind of its place
abbrev pub fitted : List IntKind → List ℤ → List ℤ
fitted [] ns = ns
fitted (k ∷ ks) [] = []
fitted (k ∷ ks) (n ∷ ns) = value k n ∷ fitted ks ns

-- values without their labels
abbrev pub numbers : List Labelled → List ℤ
numbers = map (λ x. x.number)

abbrev pub with_numbers : {L : Type 0} → Judged L Labelled → Judged L ℤ
with_numbers j = record { ruling = j.ruling; law = j.law; values = numbers j.values }
