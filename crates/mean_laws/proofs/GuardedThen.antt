-- The guarded run of a computation and then another: the first one's guarded run, and then the second's from where it ended.
use Rattle.std.proofs.Common.{◌≡◌, refl, sym, ap, ◌∙◌, List, true, false, Result, Ok, Err, Option, Some, None}
use mathlib.Core.Path.{fun_ext}
use Rattle.cl_mean.specs.Value.{Labelled}
use Rattle.cl_mean.specs.State.{State}
use Rattle.cl_mean.specs.Course.{Course, comes, stops, asks, Stop, Ask, Computation, goes_to}
use Rattle.mean_laws.specs.Runs.{then_run}
use Rattle.cl_mean.specs.Guarded.{Kept, GuardedRun, Serves, Goes, judging, judged_by, let_through, replied, answered_by, requested, guarded}

module _ {A B : Type 0} (k : A → State → Kept → GuardedRun B) where
  abbrev pub and_then : GuardedRun A → GuardedRun B
  and_then r = then_run k r

  replied_then : (a : Ask) (again : Goes A) (s : State) (g : Kept) (o : Option (List Labelled)) → and_then (replied a again s g o) ≡ replied a (λ r now h. and_then (again r now h)) s g o
  replied_then a again s g None = refl
  replied_then a again s g (Some ys) = refl

  answered_then : (a : Ask) (again : Goes A) (s : State) (g : Kept) (x : Result (List Labelled) Stop) → and_then (answered_by a again s g x) ≡ answered_by a (λ r now h. and_then (again r now h)) s g x
  answered_then a again s g (Err stop) = refl
  answered_then a again s g (Ok ys) = replied_then a again s (judged_by (judging g a true ys) g) (let_through (judging g a true ys))

  requested_then : (serves : Serves) (a : Ask) (again : Goes A) (s : State) (g : Kept) (o : Option (List Labelled)) → and_then (requested serves a again s g o) ≡ requested serves a (λ r now h. and_then (again r now h)) s g o
  requested_then serves a again s g None = refl
  requested_then serves a again s g (Some xs) = answered_then a again _ _ _

pub guarded_then : {A B : Type 0} (serves : Serves) (f : A → Computation B) (x : Course A) (g : Kept) → guarded serves (goes_to f x) g ≡ and_then (λ a now h. guarded serves (f a now) h) (guarded serves x g)
unfolding guarded
guarded_then serves f (comes a state) g = refl
guarded_then serves f (stops stop state) g = refl
guarded_then {A} {B} serves f (asks a state rest) g =
    ap (λ (again : Goes B). requested serves a again state (judged_by (judging g a false a.values) g) (let_through (judging g a false a.values)))
    (fun_ext (λ reply. fun_ext (λ now. fun_ext (λ h. guarded_then serves f (rest reply now) h))))
    ∙ sym (requested_then (λ b now h. guarded serves (f b now) h) serves a (λ reply now h. guarded serves (rest reply now) h) state (judged_by (judging g a false a.values) g) (let_through (judging g a false a.values)))
