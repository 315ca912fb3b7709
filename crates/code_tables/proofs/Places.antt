-- The places of names in a list that grows at its end.
use Rattle.std.proofs.Common.{◌≡◌, ℕ, suc, ◌<◌, List, [], ◌∷◌, ◌++◌, map, reverse, length, refl, sym, ◌∙◌, subst, arith, Bool, true, false, if◌then◌else◌, Option, Some, None, option_map, slice_get, bytes_eq}
use Rattle.std.proofs.lemmas.List.{reverse-append, reverse-reverse, length-reverse, length-map}
use Rattle.cl_scope.proofs.Places.{at_end, before_end}
use Rattle.cl_tree.specs.Words.{Word}
use Rattle.code_tables.specs.Table.{Meaning, Named, named_by, place_in}

within_case : (b : Bool) (n : ℕ) (o : Option ℕ) (i : ℕ) → (o ≡ Some i → i < n) → (if b then Some n else o) ≡ Some i
    → i < suc n
within_case true n o i f h = let e : n ≡ i = cc in omega arith
within_case false n o i f h = let e : i < n = f h in omega arith

pub place_within : (ks : List Named) (name : Word) (i : ℕ) → place_in ks name ≡ Some i → i < length ks
unfolding place_in
place_within [] name i h = cc
place_within (k ∷ ks) name i h =
    within_case (bytes_eq k.name name) (length ks) (place_in ks name) i (λ e. place_within ks name i e) h

none_case : (b : Bool) (n : ℕ) (v : Meaning) (o : Option ℕ) (m : Option Meaning) → (o ≡ None → m ≡ None)
    → (if b then Some n else o) ≡ None → (if b then Some v else m) ≡ None
none_case true n v o m f h = cc
none_case false n v o m f h = f h

pub not_there : (ks : List Named) (name : Word) → place_in ks name ≡ None → named_by ks name ≡ None
unfolding place_in named_by
not_there [] name h = refl
not_there (k ∷ ks) name h =
    none_case (bytes_eq k.name name) (length ks) k.meant (place_in ks name) (named_by ks name)
    (λ e. not_there ks name e) h

-- slots that give variables, the innermost last
module _ {X : Type 0} (f : X → Named) where
  pub known_push : (xs : List X) (x : X) → map f (reverse (xs ++ x ∷ [])) ≡ f x ∷ map f (reverse xs)
  known_push xs x = simp (reverse-append) refl

  pub known_length : (xs : List X) → length (map f (reverse xs)) ≡ length xs
  known_length xs = simp (length-map, length-reverse) refl

  found_case : (b : Bool) (xs : List X) (x : X) (i : ℕ) (o : Option ℕ) (m : Option Meaning)
      → (o ≡ Some i → i < length xs) → (o ≡ Some i → option_map (λ (y : X). (f y).meant) (slice_get (reverse xs) i) ≡ m)
      → (if b then Some (length xs) else o) ≡ Some i
      → option_map (λ (y : X). (f y).meant) (slice_get (reverse xs ++ x ∷ []) i) ≡ (if b then Some (f x).meant else m)
  found_case true xs x i o m g k h =
      let e : length xs ≡ i = cc in let l : i ≡ length (reverse xs) = sym e ∙ sym (length-reverse xs) in
      rw (at_end (reverse xs) x i l) refl
  found_case false xs x i o m g k h =
      let l : i < length xs = g h in let n : i < length (reverse xs) = rw (length-reverse xs) l in
      rw (before_end (reverse xs) x i n) (k h)

  found_in : (xs : List X) (name : Word) (i : ℕ) → place_in (map f xs) name ≡ Some i
      → option_map (λ (y : X). (f y).meant) (slice_get (reverse xs) i) ≡ named_by (map f xs) name
  unfolding place_in named_by
  found_in [] name i h = cc
  found_in (x ∷ xs) name i h =
      let size : length (map f xs) ≡ length xs = length-map xs f in
      rw (reverse-append (x ∷ []) xs) (found_case (bytes_eq (f x).name name) xs x i (place_in (map f xs) name)
      (named_by (map f xs) name)
      (λ e. subst (λ (n : ℕ). i < n) size (place_within (map f xs) name i e)) (λ e. found_in xs name i e)
      (subst (λ (n : ℕ). (if bytes_eq (f x).name name then Some n else place_in (map f xs) name) ≡ Some i) size h))

  pub found : (xs : List X) (name : Word) (i : ℕ) → place_in (map f (reverse xs)) name ≡ Some i
      → option_map (λ (y : X). (f y).meant) (slice_get xs i) ≡ named_by (map f (reverse xs)) name
  found xs name i h = subst (λ (ys : List X). option_map (λ (y : X). (f y).meant) (slice_get ys i)
      ≡ named_by (map f (reverse xs)) name) (reverse-reverse xs) (found_in (reverse xs) name i h)
