-- Lists of places that are empty, and tests that hold.
use Rattle.std.proofs.Common.{◌≡◌, ℕ, List, [], ◌∷◌, ◌++◌, map, refl, ap, ◌∙◌, Bool, true, false, not, ◌&&◌, Option, Some, None, bytes_eq, inl, inr}
use Rattle.std.specs.Prelude.{is_some}
use Rattle.std.specs.List.{flat_map}
use Rattle.std.proofs.lemmas.Slice.Eq.{bytes_eq-Decides}
use Rattle.cl_typing.specs.Rules.{Lines, unless}
use Rattle.typing_laws.specs.Standing.{OneOf}

pub none_of : {A : Type 0} (xs ys : List A) → xs ++ ys ≡ [] → (xs ≡ []) × (ys ≡ [])
none_of [] [] e = (refl, refl)
none_of [] (y ∷ ys) e = absurd cc
none_of (x ∷ xs) [] e = absurd cc
none_of (x ∷ xs) (y ∷ ys) e = absurd cc

pub holds : (b : Bool) (line : ℕ) → unless b line ≡ [] → b ≡ true
holds true line e = refl
holds false line e = absurd cc

pub both : (a b : Bool) → (a && b) ≡ true → (a ≡ true) × (b ≡ true)
both true b e = (refl, e)
both false b e = absurd cc

pub not_false : (b : Bool) → not b ≡ true → b ≡ false
not_false true e = absurd cc
not_false false e = refl

pub same_word : (a b : List ℕ) → bytes_eq a b ≡ true → a ≡ b
same_word a b e = (bytes_eq-Decides a b).0 e

pub word_same : (a b : List ℕ) → a ≡ b → bytes_eq a b ≡ true
word_same a b e = (bytes_eq-Decides a b).1 e

pub some_of : {A : Type 0} (o : Option A) → is_some o ≡ true → (x : A) × (o ≡ Some x)
some_of (Some x) e = (x, refl)
some_of None e = absurd cc

-- no place in a part, where there is none in all of them
pub none_each : {A : Type 0} (f : A → Lines) (xs : List A) → flat_map (λ ls. ls) (map f xs) ≡ [] → (x : A) → OneOf xs x → f x ≡ []
none_each f [] e x h = absurd h
none_each f (y ∷ ys) e x (inl h) = ap f h ∙ (none_of (f y) _ e).0
none_each f (y ∷ ys) e x (inr h) = none_each f ys (none_of (f y) _ e).1 x h

pub none_in : {A : Type 0} (f : A → Lines) (xs : List A) → flat_map f xs ≡ [] → (x : A) → OneOf xs x → f x ≡ []
none_in f [] e x h = absurd h
none_in f (y ∷ ys) e x (inl h) = ap f h ∙ (none_of (f y) _ e).0
none_in f (y ∷ ys) e x (inr h) = none_in f ys (none_of (f y) _ e).1 x h
