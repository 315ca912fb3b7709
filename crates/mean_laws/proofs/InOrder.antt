-- Laws of courses: `>>=` is associative, and `pure` is its unit.
use Rattle.std.proofs.Common.{◌≡◌, refl, ap}
use Rattle.cl_mean.specs.State.{State}
use Rattle.cl_mean.specs.Course.{Course, comes, stops, asks, Computation, goes_to, pure, ◌>>=◌}
use mathlib.Core.Path.{fun_ext}

pub then_pure : {A : Type 0} (x : Course A) → goes_to pure x ≡ x
then_pure (comes a state) = refl
then_pure (stops stop state) = refl
then_pure (asks a state rest) = ap (asks a state) (fun_ext (λ reply. fun_ext (λ now. then_pure (rest reply now))))

pub then_then : {A B C : Type 0} (f : A → Computation B) (g : B → Computation C) (x : Course A) → goes_to g (goes_to f x) ≡ goes_to (λ a. f a >>= g) x
then_then f g (comes a state) = refl
then_then f g (stops stop state) = refl
then_then f g (asks a state rest) = ap (asks a state) (fun_ext (λ reply. fun_ext (λ now. then_then f g (rest reply now))))

pub pure_first : {A B : Type 0} (a : A) (f : A → Computation B) (state : State) → goes_to f (pure a state) ≡ f a state
pure_first a f state = refl

pub grouped : {A B C : Type 0} (x : Course A) (f : A → Computation B) (g : B → Computation C) → goes_to g (goes_to f x) ≡ goes_to (λ a now. goes_to g (f a now)) x
grouped x f g = then_then f g x
