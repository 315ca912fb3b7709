-- Lists that are joined from parts.
use Rattle.std.proofs.Common.{◌≡◌, ℕ, suc, ◌+◌, ◌<◌, List, [], ◌∷◌, ◌++◌, map, drop, length, get_or, refl, ap, sym, ◌∙◌, subst, add-one, drop-cons}
use Rattle.std.proofs.lemmas.List.{append_assoc, append-nil}
use Rattle.std.specs.List.{flat_map}

pub join_none : {A : Type 0} (xs : List A) → xs ≡ xs ++ []
join_none xs = sym (append-nil xs)

pub join_two : {A : Type 0} (all mid new a b : List A) → mid ≡ all ++ a → new ≡ mid ++ b → new ≡ all ++ (a ++ b)
join_two all mid new a b e f = f ∙ ap (λ xs. xs ++ b) e ∙ append_assoc all a b

pub joined : {A B : Type 0} (f : A → List B) → (xs : List A) → flat_map (λ ps. ps) (map f xs) ≡ flat_map f xs
joined f [] = refl
joined f (x ∷ xs) = ap (λ ps. f x ++ ps) (joined f xs)

head_of : {A : Type 0} (xs : List A) (x : A) (i : ℕ) → i < length xs → x ≡ get_or xs i x → drop i xs ≡ x ∷ drop (suc i) xs
head_of xs x i h is = drop-cons xs i x h ∙ ap (λ y. y ∷ drop (suc i) xs) (sym is)

-- one part further
pub join_step : {A B : Type 0} (f : A → List B) (xs : List A) (x : A) (i : ℕ) (all new whole : List B) → i < length xs
    → x ≡ get_or xs i x → new ≡ all ++ f x → all ++ flat_map f (drop i xs) ≡ whole
    → new ++ flat_map f (drop (i + 1) xs) ≡ whole
join_step f xs x i all new whole h is e rest =
    let r : all ++ flat_map f (x ∷ drop (suc i) xs) ≡ whole =
    subst (λ ys. all ++ flat_map f ys ≡ whole) (head_of xs x i h is) rest in
    rw (add-one, e) (append_assoc all (f x) (flat_map f (drop (suc i) xs)) ∙ r)

-- the same where the parts are made first
pub join_step_made : {A B : Type 0} (f : A → List B) (xs : List A) (x : A) (i : ℕ) (all new whole : List B) → i < length xs
    → x ≡ get_or xs i x → new ≡ all ++ f x → all ++ flat_map (λ ps. ps) (map f (drop i xs)) ≡ whole
    → new ++ flat_map (λ ps. ps) (map f (drop (i + 1) xs)) ≡ whole
join_step_made f xs x i all new whole h is e rest =
    ap (λ ps. new ++ ps) (joined f (drop (i + 1) xs))
    ∙ join_step f xs x i all new whole h is e (ap (λ ps. all ++ ps) (sym (joined f (drop i xs))) ∙ rest)

pub ruleset joins = (join_none, join_two, joined)
