-- What the taints of functions admit, noted as ways: a parameter carries its own taints, a result all taints of its function.
use Rattle.std.specs.Prelude.{ℕ, suc, List, [], ◌∷◌, ◌++◌, Option, Some, None}
use Rattle.cl_mean.specs.declared.labels.Mentions.{Mentions}
use Rattle.cl_mean.specs.declared.labels.Taints.{Taints}
use Rattle.cl_levels.specs.Crossings.{Levelled}
use Rattle.cle_ways.specs.declared.ways.Holder.TheVariants.{Result}
use Rattle.cle_ways.specs.declared.ways.Note.{Note}
use Rattle.cle_ways.specs.Ways.{into, just, params_carry, taints_at}

-- what the taints of arguments bring to the result
unfoldable pub args_admit : ℕ → List Mentions → List Note
args_admit f [] = []
args_admit f (ms ∷ mss) = into (Result f) (just ms.all) ++ args_admit f mss

abbrev pub taints_admit : ℕ → Option Taints → List Note
taints_admit f None = []
taints_admit f (Some t) =
    params_carry f 0 t.args ++ (args_admit f t.args ++ (into (Result f) (just t.code) ++ into (Result f) (just t.result)))

-- the functions of which the table of labels knows, from number f on
unfoldable pub admissions_from : Levelled → ℕ → List (Option ℕ) → List Note
admissions_from l f [] = []
admissions_from l f (on ∷ ons) = taints_admit f (taints_at l f) ++ admissions_from l (suc f) ons

abbrev pub admissions : Levelled → List Note
admissions l = admissions_from l 0 l.annotated.labels.on_functions
