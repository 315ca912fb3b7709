-- The places of names in a list that grows at its end.
use Rattle.std.proofs.Common.{◌≡◌, ℕ, suc, ◌<◌, List, [], ◌∷◌, ◌++◌, map, reverse, length, refl, sym, ◌∙◌, subst, arith, Bool, true, false, if◌then◌else◌, Option, Some, None, option_map, slice_get, bytes_eq, zero, rules}
use Rattle.std.proofs.lemmas.List.{reverse-append, reverse-reverse, length-reverse, length-map}
use Rattle.std.proofs.lemmas.Slice.Eq.{bytes_eq-Decides}
use Rattle.cl_tree.specs.Words.{Word}
use Rattle.cl_typing.specs.Scope.{Entry, Binding, Env, meaning}
use Rattle.cl_scope.specs.Table.{place_in}

module _ {X : Type 0} where
  -- the last and the others of a list
  pub at_end : (xs : List X) (x : X) (i : ℕ) → i ≡ length xs → slice_get (xs ++ x ∷ []) i ≡ Some x
  at_end [] x zero e = refl
  at_end [] x (suc i) e = absurd (omega arith)
  at_end (y ∷ xs) x zero e = absurd (omega arith)
  at_end (y ∷ xs) x (suc i) e = at_end xs x i (omega arith)

  pub before_end : (xs : List X) (x : X) (i : ℕ) → i < length xs → slice_get (xs ++ x ∷ []) i ≡ slice_get xs i
  before_end [] x i h = absurd (omega arith)
  before_end (y ∷ xs) x zero h = refl
  before_end (y ∷ xs) x (suc i) h = before_end xs x i (omega arith)

within_case : (b : Bool) (n : ℕ) (o : Option ℕ) (i : ℕ) → (o ≡ Some i → i < n) → (if b then Some n else o) ≡ Some i
    → i < suc n
within_case true n o i f h = let e : n ≡ i = cc in omega arith
within_case false n o i f h = let e : i < n = f h in omega arith

pub place_within : (env : Env) (name : Word) (i : ℕ) → place_in env name ≡ Some i → i < length env
unfolding place_in
place_within [] name i h = cc
place_within (b ∷ env) name i h =
    within_case (bytes_eq b.name name) (length env) (place_in env name) i (λ e. place_within env name i e) h

none_case : (b : Bool) (n : ℕ) (e : Entry) (o : Option ℕ) (m : Option Entry) → (o ≡ None → m ≡ None)
    → (if b then Some n else o) ≡ None → (if b then Some e else m) ≡ None
none_case true n e o m f h = cc
none_case false n e o m f h = f h

pub not_there : (env : Env) (name : Word) → place_in env name ≡ None → meaning env name ≡ None
unfolding place_in meaning
not_there [] name h = refl
not_there (b ∷ env) name h =
    none_case (bytes_eq b.name name) (length env) b.entry (place_in env name) (meaning env name)
    (λ e. not_there env name e) h

-- items that are bindings, the innermost last
module _ {X : Type 0} (f : X → Binding) where
  pub env_push : (xs : List X) (x : X) → map f (reverse (xs ++ x ∷ [])) ≡ f x ∷ map f (reverse xs)
  env_push xs x = simp (reverse-append) refl

  pub env_length : (xs : List X) → length (map f (reverse xs)) ≡ length xs
  env_length xs = simp (length-map, length-reverse) refl

  found_case : (b : Bool) (xs : List X) (x : X) (i : ℕ) (o : Option ℕ) (m : Option Entry)
      → (o ≡ Some i → i < length xs) → (o ≡ Some i → option_map (λ (y : X). (f y).entry) (slice_get (reverse xs) i) ≡ m)
      → (if b then Some (length xs) else o) ≡ Some i
      → option_map (λ (y : X). (f y).entry) (slice_get (reverse xs ++ x ∷ []) i) ≡ (if b then Some (f x).entry else m)
  found_case true xs x i o m g k h =
      let e : length xs ≡ i = cc in let l : i ≡ length (reverse xs) = sym e ∙ sym (length-reverse xs) in
      rw (at_end (reverse xs) x i l) refl
  found_case false xs x i o m g k h =
      let l : i < length xs = g h in let n : i < length (reverse xs) = rw (length-reverse xs) l in
      rw (before_end (reverse xs) x i n) (k h)

  found_in : (xs : List X) (name : Word) (i : ℕ) → place_in (map f xs) name ≡ Some i
      → option_map (λ (y : X). (f y).entry) (slice_get (reverse xs) i) ≡ meaning (map f xs) name
  unfolding place_in meaning
  found_in [] name i h = cc
  found_in (x ∷ xs) name i h =
      let size : length (map f xs) ≡ length xs = length-map xs f in
      rw (reverse-append (x ∷ []) xs) (found_case (bytes_eq (f x).name name) xs x i (place_in (map f xs) name)
      (meaning (map f xs) name)
      (λ e. subst (λ (n : ℕ). i < n) size (place_within (map f xs) name i e)) (λ e. found_in xs name i e)
      (subst (λ (n : ℕ). (if bytes_eq (f x).name name then Some n else place_in (map f xs) name) ≡ Some i) size h))

  pub found : (xs : List X) (name : Word) (i : ℕ) → place_in (map f (reverse xs)) name ≡ Some i
      → option_map (λ (y : X). (f y).entry) (slice_get xs i) ≡ meaning (map f (reverse xs)) name
  found xs name i h = subst (λ (ys : List X). option_map (λ (y : X). (f y).entry) (slice_get ys i)
      ≡ meaning (map f (reverse xs)) name) (reverse-reverse xs) (found_in (reverse xs) name i h)

pub same_name : (a b : Word) → bytes_eq a b ≡ true → a ≡ b
same_name a b h = search (rules, bytes_eq-Decides)

pub same_bytes : (a : Word) → bytes_eq a a ≡ true
same_bytes a = search (rules, bytes_eq-Decides)
