-- The table, as the list of the variables that are known.
use Rattle.std.proofs.Common.{◌≡◌, ℕ, suc, ◌<◌, ◌-◌, List, [], ◌∷◌, ◌++◌, map, reverse, length, refl, sym, ap, ◌∙◌, subst, arith, Bool, true, false, if◌then◌else◌, Option, Some, None, option_map, slice_get, bytes_eq, drop, take, IsSome}
use Rattle.std.proofs.lemmas.List.{reverse-append}
use Rattle.std.specs.Map.{update}
use Rattle.cl_tree.specs.Words.{Word}
use Rattle.cl_scope.specs.declared.latest.Latest.{Latest}
use Rattle.cl_scope.specs.Table.{place_at}
use Rattle.cl_scope.proofs.Places.{same_name, same_bytes}
use Rattle.code_tables.specs.declared.names.Slot.{Slot}
use Rattle.code_tables.specs.Table.{meaning_in, Named, named_by, known_of, known_in, place_in, Hides, IsKept}
use Rattle.code_tables.proofs.Places as listed

pub known_push : (slots : List Slot) (s : Slot) → known_in (slots ++ s ∷ []) ≡ known_of s ∷ known_in slots
unfolding known_in
known_push slots s = listed.known_push known_of slots s

pub known_length : (slots : List Slot) → length (known_in slots) ≡ length slots
unfolding known_in
known_length slots = listed.known_length known_of slots

pub found : (slots : List Slot) (name : Word) (i : ℕ) → place_in (known_in slots) name ≡ Some i
    → option_map (λ (x : Slot). meaning_in x.meant) (slice_get slots i) ≡ named_by (known_in slots) name
unfolding known_in
found slots name i h = listed.found known_of slots name i h

pub not_there : (slots : List Slot) (name : Word) → place_in (known_in slots) name ≡ None
    → named_by (known_in slots) name ≡ None
not_there slots name h = listed.not_there (known_in slots) name h

known_is : (xs : List Slot) (name : Word) → place_in (known_in xs) name ≡ place_in (map known_of (reverse xs)) name
unfolding known_in
known_is xs name = refl

-- One binding more.
pub kept_push : (slots : List Slot) (s : Slot) (old new : Latest) → IsKept slots old
    → s.hidden ≡ place_at old s.name.now
    → ((q : Word) → place_at new q ≡ update bytes_eq (place_at old) s.name.now (Some (length slots)) q)
    → IsKept (slots ++ s ∷ []) new
unfolding place_in Hides
kept_push slots s old new k e u = record {
  places = λ q. rw (u q, known_push slots s, known_length slots, k.places q) refl;
  hides = rw (reverse-append slots (s ∷ [])) ((e ∙ k.places s.name.now ∙ known_is slots s.name.now, k.hides));
}

-- One binding less.
pop_case : (b : Bool) (name q : Word) (ks : List Named) (n : ℕ) (hidden o : Option ℕ) → (b ≡ true → name ≡ q)
    → hidden ≡ place_in ks name
    → o ≡ (if b then Some n else place_in ks q) → (if b then hidden else o) ≡ place_in ks q
pop_case true name q ks n hidden o f h e = h ∙ ap (place_in ks) (f refl)
pop_case false name q ks n hidden o f h e = e

pub kept_pop : (slots : List Slot) (s : Slot) (old new : Latest) → IsKept (slots ++ s ∷ []) old
    → ((q : Word) → place_at new q ≡ update bytes_eq (place_at old) s.name.now s.hidden q)
    → IsKept slots new
unfolding place_in Hides known_in
kept_pop slots s old new k u =
    let h : Hides (s ∷ reverse slots) = rw (reverse-append slots (s ∷ [])) at k.hides in
    record {
      places = λ q. u q ∙ pop_case (bytes_eq s.name.now q) s.name.now q (known_in slots) (length (known_in slots)) s.hidden
          (place_at old q) (same_name s.name.now q) h.0 (k.places q
          ∙ ap (λ (e : List Named). place_in e q) (known_push slots s));
      hides = h.1;
    }

pub kept_none : (latest : Latest) → ((q : Word) → place_at latest q ≡ None) → IsKept [] latest
unfolding place_in Hides known_in
kept_none latest e = record { places = e; hides = tt }

pub none_known : known_in [] ≡ []
unfolding known_in
none_known = refl

pub found_none : (slots : List Slot) (latest : Latest) (ks : List Named) (name : Word) → IsKept slots latest
    → known_in slots ≡ ks → place_at latest name ≡ None → None ≡ named_by ks name
found_none slots latest ks name k e h =
    let n : place_in (known_in slots) name ≡ None = sym (k.places name) ∙ h in sym (not_there slots name n)
    ∙ ap (λ (x : List Named). named_by x name) e

pub found_some : (slots : List Slot) (latest : Latest) (ks : List Named) (name : Word) (i : ℕ) (o : Option Slot)
    → IsKept slots latest → known_in slots ≡ ks
    → place_at latest name ≡ Some i → o ≡ slice_get slots i
    → option_map (λ (x : Slot). meaning_in x.meant) o ≡ named_by ks name
found_some slots latest ks name i o k e h j =
    let n : place_in (known_in slots) name ≡ Some i = sym (k.places name) ∙ h in
    ap (option_map (λ (x : Slot). meaning_in x.meant)) j ∙ found slots name i n ∙ ap (λ (x : List Named). named_by x name) e

some_case : (b : Bool) (n : ℕ) (o : Option ℕ) → b ≡ true → IsSome (if b then Some n else o)
some_case true n o h = refl
some_case false n o h = absurd (cc)

pub kept_has : (slots : List Slot) (s : Slot) (latest : Latest) → IsKept (slots ++ s ∷ []) latest
    → IsSome (place_at latest s.name.now)
unfolding place_in
kept_has slots s latest k =
    let e : place_in (known_in (slots ++ s ∷ [])) s.name.now
    ≡ (if bytes_eq s.name.now s.name.now then Some (length (known_in slots)) else place_in (known_in slots)
    s.name.now) = ap (λ (x : List Named). place_in x s.name.now) (known_push slots s) in
    rw (k.places s.name.now ∙ e) (some_case (bytes_eq s.name.now s.name.now) (length (known_in slots))
    (place_in (known_in slots) s.name.now) (same_bytes s.name.now))

pub known_pop : (old new : List Slot) (s : Slot) (ks : List Named) → old ≡ new ++ s ∷ [] → known_in old ≡ ks
    → known_in new ≡ drop 1 ks
known_pop old new s ks e h = ap (drop 1) (sym (known_push new s) ∙ ap known_in (sym e) ∙ h)

pub kept_bind : (slots all : List Slot) (s : Slot) (old new : Latest) (key : Word) (place : ℕ) → IsKept slots old
    → all ≡ slots ++ s ∷ []
    → s.hidden ≡ place_at old s.name.now → key ≡ s.name.now → place ≡ length slots
    → ((q : Word) → place_at new q ≡ update bytes_eq (place_at old) key (Some place) q)
    → IsKept all new
kept_bind slots all s old new key place k e h name size u =
    subst (λ (xs : List Slot). IsKept xs new) (sym e)
    (kept_push slots s old new k h (λ q. subst (λ (n : ℕ). place_at new q
    ≡ update bytes_eq (place_at old) s.name.now (Some n) q) size
    (subst (λ (w : Word). place_at new q ≡ update bytes_eq (place_at old) w (Some place) q) name (u q))))

pub known_bind : (slots all : List Slot) (s : Slot) (ks : List Named) → all ≡ slots ++ s ∷ [] → known_in slots ≡ ks
    → known_in all ≡ known_of s ∷ ks
known_bind slots all s ks e h = ap known_in e ∙ known_push slots s ∙ ap (λ (x : List Named). known_of s ∷ x) h

-- One binding less brings leaving one step further.
pub less : (ks new : List Named) (n : ℕ) → n < length ks → new ≡ drop 1 ks
    → drop (length new - n) new ≡ drop (length ks - n) ks
less [] new n h e = absurd (omega arith)
less (k ∷ ks) new n h e = let l : suc (length ks) - n ≡ suc (length ks - n) = omega arith in rw (e, l) refl

pub known_empty : (old new : List Slot) (n : ℕ) (ks : List Named) → n ≡ 0 → old ≡ new ++ [] → new ≡ take (n - 1) old
    → known_in old ≡ ks → known_in new ≡ drop 1 ks
unfolding known_in
known_empty old new n ks z e t h =
    let k : n - 1 ≡ 0 = omega arith in
    let none : new ≡ [] = t ∙ ap (λ (m : ℕ). take m old) k in
    let gone : old ≡ [] = e ∙ ap (λ (xs : List Slot). xs ++ []) none in
    ap (λ (xs : List Slot). map known_of (reverse xs)) none
    ∙ ap (λ (xs : List Named). drop 1 xs) (sym (ap (λ (xs : List Slot). map known_of (reverse xs)) gone) ∙ h)
