-- Lists of which each element passes a test.
use Rattle.std.proofs.Common.{◌≡◌, ℕ, zero, suc, List, [], ◌∷◌, ◌++◌, map, refl, sym, ap, ◌∙◌, Bool, true, Some, subst, inl, inr}
use Rattle.std.specs.Prelude.{All, slice_get}
use Rattle.std.specs.List.{AllByRecursion, flat_map, list_all}
use Rattle.std.proofs.lemmas.List.Elements.{All-from_recursion}
use Rattle.typing_laws.specs.Standing.{OneOf}
use Rattle.typing_laws.proofs.Lists.{both}

abbrev pub Each : {A : Type 0} → (A → Type 0) → List A → Type 0
Each P xs = AllByRecursion P xs

pub each_of : {A : Type 0} (P : A → Type 0) (xs : List A) → ((x : A) → OneOf xs x → P x) → Each P xs
each_of P [] h = tt
each_of P (x ∷ xs) h = (h x (inl refl), each_of P xs (λ y o. h y (inr o)))

pub each_one : {A : Type 0} (P : A → Type 0) (xs : List A) → Each P xs → (x : A) → OneOf xs x → P x
each_one P [] h x o = absurd o
each_one P (y ∷ ys) h x (inl e) = subst P (sym e) h.0
each_one P (y ∷ ys) h x (inr o) = each_one P ys h.1 x o

pub each_append : {A : Type 0} (P : A → Type 0) (xs ys : List A) → Each P xs → Each P ys → Each P (xs ++ ys)
each_append P [] ys h k = k
each_append P (x ∷ xs) ys h k = (h.0, each_append P xs ys h.1 k)

pub each_front : {A : Type 0} (P : A → Type 0) (xs ys : List A) → Each P (xs ++ ys) → Each P xs
each_front P [] ys h = tt
each_front P (x ∷ xs) ys h = (h.0, each_front P xs ys h.1)

pub each_back : {A : Type 0} (P : A → Type 0) (xs ys : List A) → Each P (xs ++ ys) → Each P ys
each_back P [] ys h = h
each_back P (x ∷ xs) ys h = each_back P xs ys h.1

-- each element of a list that passes a test
pub each_passes : {A : Type 0} (p : A → Bool) (P : A → Type 0) → ((x : A) → p x ≡ true → P x) → (xs : List A) → list_all p xs ≡ true → Each P xs
each_passes p P f [] h = tt
each_passes p P f (x ∷ xs) h = let k = both (p x) (list_all p xs) h in (f x k.0, each_passes p P f xs k.1)

pub all_pass : {A : Type 0} (p : A → Bool) (P : A → Type 0) → ((x : A) → p x ≡ true → P x) → (xs : List A) → list_all p xs ≡ true → All P xs
all_pass p P f xs h = All-from_recursion P xs (each_passes p P f xs h)

pub each_map : {A B : Type 0} (f : A → B) (P : B → Type 0) (xs : List A) → Each (λ x. P (f x)) xs → Each P (map f xs)
each_map f P [] h = tt
each_map f P (x ∷ xs) h = (h.0, each_map f P xs h.1)

pub each_flat : {A B : Type 0} (f : A → List B) (P : B → Type 0) (xs : List A) → ((x : A) → OneOf xs x → Each P (f x)) → Each P (flat_map f xs)
each_flat f P [] h = tt
each_flat f P (x ∷ xs) h = each_append P (f x) (flat_map f xs) (h x (inl refl)) (each_flat f P xs (λ y o. h y (inr o)))

-- ---- elements at a place

pub some_one : {A : Type 0} (xs : List A) (k : ℕ) (x : A) → slice_get xs k ≡ Some x → OneOf xs x
some_one [] k x e = absurd cc
some_one (y ∷ ys) zero x e = let p : x ≡ y = cc in inl p
some_one (y ∷ ys) (suc k) x e = inr (some_one ys k x e)

pub map_at : {A B : Type 0} (f : A → B) (xs : List A) (k : ℕ) (x : A) (y : B) → slice_get xs k ≡ Some x → slice_get (map f xs) k ≡ Some y → f x ≡ y
map_at f [] k x y e h = absurd cc
map_at f (z ∷ zs) zero x y e h = let p : z ≡ x = cc in let q : f z ≡ y = cc in ap f (sym p) ∙ q
map_at f (z ∷ zs) (suc k) x y e h = map_at f zs k x y e h
