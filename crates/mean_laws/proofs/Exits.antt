-- What `main` comes to is alike where the ends of its body are.
use Rattle.std.proofs.Common.{refl, [], ◌∷◌}
use Rattle.cl_mean.specs.State.{Place}
use Rattle.cl_mean.specs.Course.{meaningless, the_number}
use Rattle.cl_mean.specs.Execution.{Ending, goes_on, breaks, continues, returns}
use Rattle.cl_mean.specs.Meaning.{exit_value}
use Rattle.mean_laws.proofs.Alike.{Family, Num, Nums, Alike, alike_pure, alike_halt, alike_then, alike_number, Endings}

module _ (F : Family) (At : Place → Place → Type 0) where
  pub exit_like : (a b : Ending) → Endings At a b → Alike F Nums (exit_value a) (exit_value b)
  exit_like (returns v) (returns w) h = alike_then F Num Nums (the_number v) (the_number w) _ _ (alike_number F v w h) (λ x y p. alike_pure F Nums (x ∷ []) (y ∷ []) (p, tt))
  exit_like (goes_on e) (goes_on e') h = alike_pure F Nums _ _ (refl, tt)
  exit_like breaks breaks h = alike_halt F Nums meaningless tt
  exit_like continues continues h = alike_halt F Nums meaningless tt
  exit_like _ _ h = absurd h
