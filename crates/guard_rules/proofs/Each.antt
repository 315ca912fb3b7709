-- `each`, part by part.
use Rattle.std.proofs.Common.{◌≡◌, ℕ, suc, ◌+◌, ◌<◌, ◌≤◌, List, [], ◌∷◌, ◌++◌, Option, Some, None, option_map, option_and_then, map, drop, length, refl, ap, sym, ◌∙◌, get_or, drop-cons, add-one, subst}
use Rattle.std.proofs.lemmas.List.{append_assoc, append-nil, drop_all}
use Rattle.cl_labelling.specs.Json.{each}

-- what was found, with one more behind it
one_more : {A : Type 0} (done : List A) (y : A) (found : Option (List A))
    → option_map (λ ys. done ++ ys) (option_map (λ ys. y ∷ ys) found) ≡ option_map (λ ys. (done ++ y ∷ []) ++ ys) found
one_more done y None = refl
one_more done y (Some ys) = ap Some (sym (append_assoc done (y ∷ []) ys))

-- a part that has what is asked for
pub found_one : {A B : Type 0} (f : A → Option B) (done : List B) (x : A) (y : B) (xs : List A) → f x ≡ Some y
    → option_map (λ ys. (done ++ y ∷ []) ++ ys) (each f xs) ≡ option_map (λ ys. done ++ ys) (each f (x ∷ xs))
unfolding each
found_one f done x y xs e =
    sym (one_more done y (each f xs)) ∙ ap (λ o. option_map (λ ys. done ++ ys) (option_and_then (λ y. option_map (λ ys. y ∷ ys) (each f xs)) o)) (sym e)

-- a part that hasn't
pub found_none : {A B : Type 0} (f : A → Option B) (done : List B) (x : A) (xs : List A) → f x ≡ None
    → None ≡ option_map (λ ys. done ++ ys) (each f (x ∷ xs))
unfolding each
found_none f done x xs e =
    ap (λ o. option_map (λ ys. done ++ ys) (option_and_then (λ y. option_map (λ ys. y ∷ ys) (each f xs)) o)) (sym e)

-- no part is left
pub found_all : {A B : Type 0} (f : A → Option B) (done : List B) → Some done ≡ option_map (λ ys. done ++ ys) (each f [])
unfolding each
found_all f done = ap Some (sym (append-nil done))

-- ---- the same for a list of which some parts are done

pub head_of : {C : Type 0} (parts : List C) (p : C) (i : ℕ) → i < length parts → p ≡ get_or parts i p
    → drop i parts ≡ p ∷ drop (suc i) parts
head_of parts p i h is = drop-cons parts i p h ∙ ap (λ q. q ∷ drop (suc i) parts) (sym is)

pub step_one : {A B C : Type 0} (f : A → Option B) (v : C → A) (parts : List C) (p : C) (i : ℕ) (done new : List B)
    (y : B) (whole : Option (List B)) → i < length parts → p ≡ get_or parts i p → f (v p) ≡ Some y
    → new ≡ done ++ y ∷ [] → option_map (λ ys. done ++ ys) (each f (map v (drop i parts))) ≡ whole
    → option_map (λ ys. new ++ ys) (each f (map v (drop (i + 1) parts))) ≡ whole
step_one f v parts p i done new y whole h is e behind rest =
    rw (add-one, behind) (found_one f done (v p) y (map v (drop (suc i) parts)) e
    ∙ subst (λ ps. option_map (λ ys. done ++ ys) (each f (map v ps)) ≡ whole) (head_of parts p i h is) rest)

pub stop_none : {A B C : Type 0} (f : A → Option B) (v : C → A) (parts : List C) (p : C) (i : ℕ) (done : List B)
    (whole : Option (List B)) → i < length parts → p ≡ get_or parts i p → f (v p) ≡ None
    → option_map (λ ys. done ++ ys) (each f (map v (drop i parts))) ≡ whole → None ≡ whole
stop_none f v parts p i done whole h is e rest =
    found_none f done (v p) (map v (drop (suc i) parts)) e
    ∙ subst (λ ps. option_map (λ ys. done ++ ys) (each f (map v ps)) ≡ whole) (head_of parts p i h is) rest

pub all_done : {A B C : Type 0} (f : A → Option B) (v : C → A) (parts : List C) (i : ℕ) (done : List B)
    (whole : Option (List B)) → length parts ≤ i
    → option_map (λ ys. done ++ ys) (each f (map v (drop i parts))) ≡ whole → Some done ≡ whole
all_done f v parts i done whole h rest =
    found_all f done
    ∙ subst (λ ps. option_map (λ ys. done ++ ys) (each f (map v ps)) ≡ whole) (drop_all i parts h) rest

-- ---- the same by a part of what was found

map_push : {R B : Type 0} (g : R → B) (rs : List R) (r : R) → map g (rs ++ r ∷ []) ≡ map g rs ++ g r ∷ []
map_push g [] r = refl
map_push g (s ∷ rs) r = ap (λ bs. g s ∷ bs) (map_push g rs r)

module _ {R B C : Type 0} (g : R → B) (parts : List C) (p : C) (i : ℕ) (done new : List R) (r : R)
    (h : i < length parts) (is : p ≡ get_or parts i p) (behind : new ≡ done ++ r ∷ []) where
  pub step_by : (f : C → Option B) (whole : Option (List B)) → f p ≡ Some (g r)
      → option_map (λ ys. map g done ++ ys) (each f (drop i parts)) ≡ whole
      → option_map (λ ys. map g new ++ ys) (each f (drop (i + 1) parts)) ≡ whole
  step_by f whole e rest =
      rw (add-one, behind, map_push g done r) (found_one f (map g done) p (g r) (drop (suc i) parts) e
      ∙ subst (λ ps. option_map (λ ys. map g done ++ ys) (each f ps) ≡ whole) (head_of parts p i h is) rest)

  pub step_map : (f : C → B) (whole : List B) → g r ≡ f p → map g done ++ map f (drop i parts) ≡ whole
      → map g new ++ map f (drop (i + 1) parts) ≡ whole
  step_map f whole e rest =
      rw (add-one, behind, map_push g done r, e) (append_assoc (map g done) (f p ∷ []) (map f (drop (suc i) parts))
      ∙ subst (λ ps. map g done ++ map f ps ≡ whole) (head_of parts p i h is) rest)

pub all_by : {R B C : Type 0} (g : R → B) (f : C → Option B) (parts : List C) (i : ℕ) (done : List R) (whole : Option (List B))
    → length parts ≤ i → option_map (λ ys. map g done ++ ys) (each f (drop i parts)) ≡ whole → Some (map g done) ≡ whole
all_by g f parts i done whole h rest =
    found_all f (map g done) ∙ subst (λ ps. option_map (λ ys. map g done ++ ys) (each f ps) ≡ whole) (drop_all i parts h) rest

pub all_map : {R B C : Type 0} (g : R → B) (f : C → B) (parts : List C) (i : ℕ) (done : List R) (whole : List B)
    → length parts ≤ i → map g done ++ map f (drop i parts) ≡ whole → map g done ≡ whole
all_map g f parts i done whole h rest =
    sym (append-nil (map g done)) ∙ subst (λ ps. map g done ++ map f ps ≡ whole) (drop_all i parts h) rest
