-- Names spread over maps.
use Rattle.std.proofs.Common.{◌≡◌, ℕ, zero, suc, ◌<◌, ◌≤◌, ⊎_elim, List, [], ◌∷◌, ◌++◌, Bool, true, false, bytes_eq, Option, Some, None, slice_get, set, length, get_or, Result, Ok, Err, OnOk, OnErr, IsSome, refl, sym, ap, subst, ◌∙◌}
use Rattle.std.proofs.lemmas.Bool.{cases_eq}
use Rattle.std.proofs.lemmas.Option.{slice_get_past, slice_get-get_or}
use Rattle.std.proofs.lemmas.Map.{update_same, update_other}
use Rattle.std.specs.Map.{update}
use Rattle.cl_base.specs.declared.name.NoMemory.{NoMemory}
use Rattle.cl_tree.specs.Words.{Word}
use Rattle.cl_scope.specs.declared.latest.Places.{Places}
use Rattle.cl_scope.specs.Table.{held_at, held_in, map_of}
use Rattle.cl_scope.proofs.Places.{same_name}

get_set_same : {A : Type 0} (xs : List A) (i : ℕ) (x y : A) → slice_get xs i ≡ Some y → slice_get (set xs i x) i ≡ Some x
get_set_same [] i x y h = absurd (cc)
get_set_same (z ∷ xs) zero x y h = refl
get_set_same (z ∷ xs) (suc i) x y h = get_set_same xs i x y h

get_set_other : {A : Type 0} (xs : List A) (i j : ℕ) (x : A) → (j ≡ i → ⊥) → slice_get (set xs i x) j ≡ slice_get xs j
get_set_other [] i j x d = refl
get_set_other (z ∷ xs) zero zero x d = absurd (d refl)
get_set_other (z ∷ xs) zero (suc j) x d = refl
get_set_other (z ∷ xs) (suc i) zero x d = refl
get_set_other (z ∷ xs) (suc i) (suc j) x d = get_set_other xs i j x (λ e. d (ap suc e))

-- one map more, with nothing in it
pub push_same : (maps : List Places) (p : Places) (j : ℕ) (q : Word) → held_at p q ≡ None → held_in (slice_get (maps ++ p ∷ []) j) q ≡ held_in (slice_get maps j) q
push_same [] p zero q h = h
push_same [] p (suc j) q h = refl
push_same (m ∷ maps) p zero q h = refl
push_same (m ∷ maps) p (suc j) q h = push_same maps p j q h

abbrev pub held : List Places → Word → Option ℕ
held maps q = held_in (slice_get maps (map_of q)) q

-- what a name has in its map, it has in all of them
pub put_in : (maps : List Places) (i : ℕ) (old new : Places) (name : Word) (v : Option ℕ) → i ≡ map_of name → slice_get maps i ≡ Some old
    → ((r : Word) → held_at new r ≡ update bytes_eq (held_at old) name v r) → (q : Word) → held (set maps i new) q ≡ update bytes_eq (held maps) name v q
put_in maps i old new name v at there u q = by (bytes_eq name q) refl
  where
    by : (b : Bool) → bytes_eq name q ≡ b → held (set maps i new) q ≡ update bytes_eq (held maps) name v q
    by true e =
        let s : name ≡ q = same_name name q e in
        let here : slice_get (set maps i new) (map_of q) ≡ Some new = subst (λ (k : ℕ). slice_get (set maps i new) k ≡ Some new) (at ∙ ap map_of s) (get_set_same maps i new old there) in
        ap (λ o. held_in o q) here ∙ (u q ∙ update_same bytes_eq (held_at old) name v q e) ∙ sym (update_same bytes_eq (held maps) name v q e)
    by false e = ⊎_elim
        (λ (s : map_of q ≡ i).
        let here : slice_get (set maps i new) (map_of q) ≡ Some new = subst (λ (k : ℕ). slice_get (set maps i new) k ≡ Some new) (sym s) (get_set_same maps i new old there) in
        let was : slice_get maps (map_of q) ≡ Some old = subst (λ (k : ℕ). slice_get maps k ≡ Some old) (sym s) there in
        ap (λ o. held_in o q) here ∙ (u q ∙ update_other bytes_eq (held_at old) name v q e) ∙ sym (ap (λ o. held_in o q) was) ∙ sym (update_other bytes_eq (held maps) name v q e))
        (λ (d : map_of q ≡ i → ⊥). ap (λ o. held_in o q) (get_set_other maps i (map_of q) new d) ∙ sym (update_other bytes_eq (held maps) name v q e))
        (cases_eq (map_of q) i)

module _ (maps : List Places) (i : ℕ) (old new : Places) (within : i < length maps) (is : old ≡ get_or maps i old) where
  there : slice_get maps i ≡ Some old
  there = slice_get-get_or maps i old within ∙ ap (λ (m : Places). Some m) (sym is)

  pub put_at : (name : Word) (v : Option ℕ) → i ≡ map_of name → ((r : Word) → held_at new r ≡ update bytes_eq (held_at old) name v r)
      → (q : Word) → held (set maps i new) q ≡ update bytes_eq (held maps) name v q
  put_at name v at u q = put_in maps i old new name v at there u q

  pub same_at : ((r : Word) → held_at new r ≡ held_at old r) → (q : Word) → held (set maps i new) q ≡ held maps q
  same_at u q = ⊎_elim
      (λ (s : map_of q ≡ i).
      let here : slice_get (set maps i new) (map_of q) ≡ Some new = subst (λ (k : ℕ). slice_get (set maps i new) k ≡ Some new) (sym s) (get_set_same maps i new old there) in
      let was : slice_get maps (map_of q) ≡ Some old = subst (λ (k : ℕ). slice_get maps k ≡ Some old) (sym s) there in
      ap (λ o. held_in o q) here ∙ u q ∙ sym (ap (λ o. held_in o q) was))
      (λ (d : map_of q ≡ i → ⊥). ap (λ o. held_in o q) (get_set_other maps i (map_of q) new d))
      (cases_eq (map_of q) i)

  pub held_here : (name : Word) → i ≡ map_of name → held maps name ≡ held_at old name
  held_here name at = ap (λ o. held_in o name) (subst (λ (k : ℕ). slice_get maps k ≡ Some old) at there)

pub nothing_past : (maps : List Places) (name : Word) → length maps ≤ map_of name → held maps name ≡ None
nothing_past maps name h = ap (λ o. held_in o name) (slice_get_past maps (map_of name) h)

pub update_on : (f g : Word → Option ℕ) (name : Word) (v : Option ℕ) → ((r : Word) → f r ≡ g r) → (q : Word) → update bytes_eq f name v q ≡ update bytes_eq g name v q
update_on f g name v h q = by (bytes_eq name q) refl
  where
    by : (b : Bool) → bytes_eq name q ≡ b → update bytes_eq f name v q ≡ update bytes_eq g name v q
    by true e = update_same bytes_eq f name v q e ∙ sym (update_same bytes_eq g name v q e)
    by false e = update_other bytes_eq f name v q e ∙ h q ∙ sym (update_other bytes_eq g name v q e)

pub on_ok : (r : Result (Unit {0}) NoMemory) (P Q : Type 0) → (P → Q) → OnOk r P → OnOk r Q
on_ok (Ok x) P Q f h = f h
on_ok (Err e) P Q f h = tt

pub on_err : (r : Result (Unit {0}) NoMemory) (P Q : Type 0) → (P → Q) → OnErr r P → OnErr r Q
on_err (Ok x) P Q f h = tt
on_err (Err e) P Q f h = f h

pub not_there : (o : Option ℕ) → o ≡ None → IsSome o → ⊥
not_there None e h = absurd (cc)
not_there (Some x) e h = absurd (cc)
