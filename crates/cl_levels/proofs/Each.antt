-- What the lists that uses give contain.
use Rattle.std.proofs.Common.{◌≡◌, ℕ, zero, suc, ◌+◌, ◌<◌, ◌⊎◌, inl, inr, ⊎_elim, List, [], ◌∷◌, ◌++◌, length, get_or, slice_index_or, refl, sym, ap, subst, ◌∙◌, arith}
use Rattle.std.proofs.lemmas.List.Elements.{Contains-append_cases, Contains-append_left, Contains-append_right}
use Rattle.std.specs.List.{Contains, flat_map}
use Rattle.cl_levels.specs.declared.uses.Use.{Use}
use Rattle.cl_levels.specs.Uses.{each_from}

pub head_or_tail : {A : Type 0} (y x : A) (ys : List A) → Contains (y ∷ ys) x → (y ≡ x) ⊎ Contains ys x
head_or_tail {A} y x ys h = ⊎_elim (λ (l : Contains (y ∷ []) x). inl (only l.0 l.1 l.2)) (λ (r : Contains ys x). inr r) (Contains-append_cases (y ∷ []) ys x h)
  where
    only : (k : ℕ) → k < 1 → get_or (y ∷ []) k x ≡ x → y ≡ x
    only zero l e = e
    only (suc k) l e = absurd (omega arith)

pub at_head : {A : Type 0} (x : A) (xs : List A) → Contains (x ∷ xs) x
at_head x xs = (0, omega arith, refl)

pub in_tail : {A : Type 0} (y x : A) (ys : List A) → Contains ys x → Contains (y ∷ ys) x
in_tail y x ys h = (suc h.0, omega (arith, h.1), h.2)

pub in_none : {A : Type 0} (x : A) → Contains [] x → ⊥
in_none x h = omega (arith, h.1)

pub from_flat : {A B : Type 0} (f : B → List A) (xs : List B) (a : A) → Contains (flat_map f xs) a → (x : B) × (Contains xs x × Contains (f x) a)
from_flat f [] a h = absurd (in_none a h)
from_flat {A} {B} f (x ∷ xs) a h =
    ⊎_elim (λ (l : Contains (f x) a). (x, (at_head x xs, l)))
    (λ (r : Contains (flat_map f xs) a). let b = from_flat f xs a r in (b.0, (in_tail x b.0 xs b.1.0, b.1.1)))
    (Contains-append_cases (f x) (flat_map f xs) a h)

pub to_flat : {A B : Type 0} (f : B → List A) (xs : List B) (x : B) (a : A) → Contains xs x → Contains (f x) a → Contains (flat_map f xs) a
to_flat f [] x a h c = absurd (in_none x h)
to_flat {A} {B} f (y ∷ ys) x a h c =
    ⊎_elim (λ (e : y ≡ x). Contains-append_left (f y) (flat_map f ys) a (subst (λ (z : B). Contains (f z) a) (sym e) c))
    (λ (r : Contains ys x). Contains-append_right (f y) (flat_map f ys) a (to_flat f ys x a r c))
    (head_or_tail y x ys h)

-- an element comes from a use of some function
pub record Origin {A : Type 0} (gives : ℕ → Use → List A) (f : ℕ) (uss : List (List Use)) (a : A) : Type 0 where
  pub by : ℕ
  pub used : Use
  pub stands : Contains (slice_index_or uss by []) used
  pub gave : Contains (gives (f + by) used) a

pub from_each : {A : Type 0} (gives : ℕ → Use → List A) (f : ℕ) (uss : List (List Use)) (a : A) → Contains (each_from gives f uss) a → Origin gives f uss a
unfolding each_from
from_each gives f [] a h = absurd (in_none a h)
from_each {A} gives f (us ∷ uss) a h =
    ⊎_elim (λ (l : Contains (flat_map (gives f) us) a). let b = from_flat (gives f) us a l in
    record { by = 0; used = b.0; stands = b.1.0; gave = subst (λ (n : ℕ). Contains (gives n b.0) a) (omega arith) b.1.1 })
    (λ (r : Contains (each_from gives (suc f) uss) a). let o = from_each gives (suc f) uss a r in
    record { by = suc o.by; used = o.used; stands = o.stands; gave = subst (λ (n : ℕ). Contains (gives n o.used) a) (omega arith) o.gave })
    (Contains-append_cases (flat_map (gives f) us) (each_from gives (suc f) uss) a h)

pub to_each : {A : Type 0} (gives : ℕ → Use → List A) (f : ℕ) (uss : List (List Use)) (i : ℕ) (used : Use) (a : A)
    → Contains (slice_index_or uss i []) used → Contains (gives (f + i) used) a → Contains (each_from gives f uss) a
unfolding each_from
to_each gives f [] i used a h c = absurd (in_none used h)
to_each gives f (us ∷ uss) zero used a h c =
    Contains-append_left (flat_map (gives f) us) (each_from gives (suc f) uss) a
    (to_flat (gives f) us used a h (subst (λ (n : ℕ). Contains (gives n used) a) (omega arith) c))
to_each gives f (us ∷ uss) (suc i) used a h c =
    Contains-append_right (flat_map (gives f) us) (each_from gives (suc f) uss) a
    (to_each gives (suc f) uss i used a h (subst (λ (n : ℕ). Contains (gives n used) a) (omega arith) c))

flat_same : {A B : Type 0} (f g : B → List A) → ((x : B) → f x ≡ g x) → (xs : List B) → flat_map f xs ≡ flat_map g xs
flat_same f g e [] = refl
flat_same f g e (x ∷ xs) = ap (λ ys. ys ++ flat_map f xs) (e x) ∙ ap (λ ys. g x ++ ys) (flat_same f g e xs)

-- lists that give the same for each use
pub each_same : {A : Type 0} (gives other : ℕ → Use → List A) → ((f : ℕ) (u : Use) → gives f u ≡ other f u) → (f : ℕ) (uss : List (List Use)) → each_from gives f uss ≡ each_from other f uss
unfolding each_from
each_same gives other e f [] = refl
each_same gives other e f (us ∷ uss) =
    ap (λ ys. ys ++ each_from gives (suc f) uss) (flat_same (gives f) (other f) (e f) us) ∙ ap (λ ys. flat_map (other f) us ++ ys) (each_same gives other e (suc f) uss)
