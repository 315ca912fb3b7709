-- Labels by their numbers.
use Rattle.std.proofs.Common.{◌≡◌, ℕ, zero, suc, List, [], ◌∷◌, Some, slice_get, refl}
use Rattle.cl_mean.specs.declared.labels.LabelFact.{LabelFact}
use Rattle.cl_mean.specs.Source.{label_at}

pub label_is : (labels : List LabelFact) (k : ℕ) → label_at labels (Some k) ≡ slice_get labels k
label_is [] k = refl
label_is (l ∷ ls) zero = refl
label_is (l ∷ ls) (suc k) = label_is ls k
