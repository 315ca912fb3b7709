-- The table of scopes, as the list of its bindings.
use Rattle.std.proofs.Common.{◌≡◌, ℕ, suc, ◌<◌, ◌≤◌, ◌-◌, List, [], ◌∷◌, ◌++◌, map, reverse, length, refl, sym, ap, ◌∙◌, subst, arith, Bool, true, false, if◌then◌else◌, Option, Some, None, option_map, slice_get, bytes_eq, drop, take, IsSome, zero, nat_le, is_some, ◌⊎◌, inl, inr}
use Rattle.std.proofs.lemmas.Bool.{cases_lt}
use Rattle.std.proofs.lemmas.Bool.Decides.{nat_tests}
use Rattle.std.proofs.lemmas.List.{reverse-append}
use Rattle.std.specs.Map.{update}
use Rattle.cl_tree.specs.Words.{Word}
use Rattle.cl_typing.specs.Scope.{Entry, Binding, Env, meaning, is_bound}
use Rattle.cl_scope.specs.declared.scopes.Slot.{Slot}
use Rattle.cl_scope.proofs.Places as listed
use Rattle.cl_scope.proofs.Places.{place_within, same_name, same_bytes}
use Rattle.cl_scope.specs.Table.{entry_of, binding_of, env_of, place_in, place_at, since, Hides, IsKept}
use Rattle.cl_scope.specs.declared.latest.Latest.{Latest}

pub env_push : (slots : List Slot) (s : Slot) → env_of (slots ++ s ∷ []) ≡ binding_of s ∷ env_of slots
unfolding env_of
env_push slots s = listed.env_push binding_of slots s

pub env_length : (slots : List Slot) → length (env_of slots) ≡ length slots
unfolding env_of
env_length slots = listed.env_length binding_of slots

pub found : (slots : List Slot) (name : Word) (i : ℕ) → place_in (env_of slots) name ≡ Some i
    → option_map (λ (x : Slot). entry_of x.means) (slice_get slots i) ≡ meaning (env_of slots) name
unfolding env_of
found slots name i h = listed.found binding_of slots name i h

pub not_there : (slots : List Slot) (name : Word) → place_in (env_of slots) name ≡ None
    → meaning (env_of slots) name ≡ None
not_there slots name h = listed.not_there (env_of slots) name h

env_is : (xs : List Slot) (name : Word) → place_in (env_of xs) name ≡ place_in (map binding_of (reverse xs)) name
unfolding env_of
env_is xs name = refl

-- One binding more.
pub kept_push : (slots : List Slot) (s : Slot) (old new : Latest) → IsKept slots old
    → s.hidden ≡ place_at old s.name.now
    → ((q : Word) → place_at new q ≡ update bytes_eq (place_at old) s.name.now (Some (length slots)) q)
    → IsKept (slots ++ s ∷ []) new
unfolding place_in Hides
kept_push slots s old new k e u = record {
  places = λ q. rw (u q, env_push slots s, env_length slots, k.places q) refl;
  hides = rw (reverse-append slots (s ∷ [])) ((e ∙ k.places s.name.now ∙ env_is slots s.name.now, k.hides));
}

-- One binding less.
pop_case : (b : Bool) (name q : Word) (env : Env) (n : ℕ) (hidden o : Option ℕ) → (b ≡ true → name ≡ q)
    → hidden ≡ place_in env name
    → o ≡ (if b then Some n else place_in env q) → (if b then hidden else o) ≡ place_in env q
pop_case true name q env n hidden o f h e = h ∙ ap (place_in env) (f refl)
pop_case false name q env n hidden o f h e = e

pub kept_pop : (slots : List Slot) (s : Slot) (old new : Latest) → IsKept (slots ++ s ∷ []) old
    → ((q : Word) → place_at new q ≡ update bytes_eq (place_at old) s.name.now s.hidden q)
    → IsKept slots new
unfolding place_in Hides env_of
kept_pop slots s old new k u =
    let h : Hides (s ∷ reverse slots) = rw (reverse-append slots (s ∷ [])) at k.hides in
    record {
      places = λ q. u q ∙ pop_case (bytes_eq s.name.now q) s.name.now q (env_of slots) (length (env_of slots)) s.hidden
          (place_at old q) (same_name s.name.now q) h.0 (k.places q
          ∙ ap (λ (e : Env). place_in e q) (env_push slots s));
      hides = h.1;
    }

pub kept_none : (latest : Latest) → ((q : Word) → place_at latest q ≡ None) → IsKept [] latest
unfolding place_in Hides env_of
kept_none latest e = record { places = e; hides = tt }

pub none_env : env_of [] ≡ []
unfolding env_of
none_env = refl

pub found_none : (slots : List Slot) (latest : Latest) (env : Env) (name : Word) → IsKept slots latest
    → env_of slots ≡ env → place_at latest name ≡ None → None ≡ meaning env name
found_none slots latest env name k e h =
    let n : place_in (env_of slots) name ≡ None = sym (k.places name) ∙ h in sym (not_there slots name n)
    ∙ ap (λ (x : Env). meaning x name) e

pub found_some : (slots : List Slot) (latest : Latest) (env : Env) (name : Word) (i : ℕ) (o : Option Slot)
    → IsKept slots latest → env_of slots ≡ env
    → place_at latest name ≡ Some i → o ≡ slice_get slots i
    → option_map (λ (x : Slot). entry_of x.means) o ≡ meaning env name
found_some slots latest env name i o k e h j =
    let n : place_in (env_of slots) name ≡ Some i = sym (k.places name) ∙ h in
    ap (option_map (λ (x : Slot). entry_of x.means)) j ∙ found slots name i n ∙ ap (λ (x : Env). meaning x name) e

some_case : (b : Bool) (n : ℕ) (o : Option ℕ) → b ≡ true → IsSome (if b then Some n else o)
some_case true n o h = refl
some_case false n o h = absurd (cc)

pub kept_has : (slots : List Slot) (s : Slot) (latest : Latest) → IsKept (slots ++ s ∷ []) latest
    → IsSome (place_at latest s.name.now)
unfolding place_in
kept_has slots s latest k =
    let e : place_in (env_of (slots ++ s ∷ [])) s.name.now
    ≡ (if bytes_eq s.name.now s.name.now then Some (length (env_of slots)) else place_in (env_of slots)
    s.name.now) = ap (λ (x : Env). place_in x s.name.now) (env_push slots s) in
    rw (k.places s.name.now ∙ e) (some_case (bytes_eq s.name.now s.name.now) (length (env_of slots))
    (place_in (env_of slots) s.name.now) (same_bytes s.name.now))

pub env_pop : (old new : List Slot) (s : Slot) (env : Env) → old ≡ new ++ s ∷ [] → env_of old ≡ env
    → env_of new ≡ drop 1 env
env_pop old new s env e h = ap (drop 1) (sym (env_push new s) ∙ ap env_of (sym e) ∙ h)

pub kept_bind : (slots all : List Slot) (s : Slot) (old new : Latest) (key : Word) (place : ℕ) → IsKept slots old
    → all ≡ slots ++ s ∷ []
    → s.hidden ≡ place_at old s.name.now → key ≡ s.name.now → place ≡ length slots
    → ((q : Word) → place_at new q ≡ update bytes_eq (place_at old) key (Some place) q)
    → IsKept all new
kept_bind slots all s old new key place k e h name size u =
    subst (λ (xs : List Slot). IsKept xs new) (sym e)
    (kept_push slots s old new k h (λ q. subst (λ (n : ℕ). place_at new q
    ≡ update bytes_eq (place_at old) s.name.now (Some n) q) size
    (subst (λ (w : Word). place_at new q ≡ update bytes_eq (place_at old) w (Some place) q) name (u q))))

pub env_bind : (slots all : List Slot) (s : Slot) (env : Env) → all ≡ slots ++ s ∷ [] → env_of slots ≡ env
    → env_of all ≡ binding_of s ∷ env
env_bind slots all s env e h = ap env_of e ∙ env_push slots s ∙ ap (λ (x : Env). binding_of s ∷ x) h

-- One binding less brings leaving one step further.
pub less : (env new : Env) (n : ℕ) → n < length env → new ≡ drop 1 env
    → drop (length new - n) new ≡ drop (length env - n) env
less [] new n h e = absurd (omega arith)
less (b ∷ env) new n h e = let k : suc (length env) - n ≡ suc (length env - n) = omega arith in rw (e, k) refl

pub env_empty : (old new : List Slot) (n : ℕ) (env : Env) → n ≡ 0 → old ≡ new ++ [] → new ≡ take (n - 1) old
    → env_of old ≡ env → env_of new ≡ drop 1 env
unfolding env_of
env_empty old new n env z e t h =
    let k : n - 1 ≡ 0 = omega arith in
    let none : new ≡ [] = t ∙ ap (λ (m : ℕ). take m old) k in
    let gone : old ≡ [] = e ∙ ap (λ (xs : List Slot). xs ++ []) none in
    ap (λ (xs : List Slot). map binding_of (reverse xs)) none
    ∙ ap (λ (xs : Env). drop 1 xs) (sym (ap (λ (xs : List Slot). map binding_of (reverse xs)) gone) ∙ h)

-- ---- bound since

none_bound_case : (t : Bool) (n : ℕ) (o : Option ℕ) (e : Entry) (m : Option Entry) → (o ≡ None → is_some m ≡ false)
    → (if t then Some n else o) ≡ None → is_some (if t then Some e else m) ≡ false
none_bound_case true n o e m f h = cc
none_bound_case false n o e m f h = f h

pub none_bound : (n : ℕ) (env : Env) (name : Word) → place_in env name ≡ None → is_bound (take n env) name ≡ false
unfolding place_in is_bound meaning
none_bound zero env name h = refl
none_bound (suc n) [] name h = refl
none_bound (suc n) (b ∷ env) name h =
    none_bound_case (bytes_eq b.name name) (length env) (place_in env name) b.entry (meaning (take n env) name)
    (λ e. none_bound n env name e) h

within_since : (t : Bool) (n i s : ℕ) (o : Option ℕ) (e : Entry) (m : Option Entry) → s ≤ n
    → (o ≡ Some i → is_some m ≡ nat_le s i) → (if t then Some n else o) ≡ Some i
    → is_some (if t then Some e else m) ≡ nat_le s i
within_since true n i s o e m l f h = let k : n ≡ i = cc in grind (arith, nat_tests)
within_since false n i s o e m l f h = f h

since_case : (start : ℕ) (b : Binding) (env : Env) (name : Word) (i : ℕ)
    → (place_in env name ≡ Some i → is_bound (since start env) name ≡ nat_le start i)
    → (length env < start) ⊎ (start ≤ length env) → place_in (b ∷ env) name ≡ Some i
    → is_bound (since start (b ∷ env)) name ≡ nat_le start i
unfolding place_in is_bound meaning
since_case start b env name i f (inr l) h =
    let k : suc (length env) - start ≡ suc (length env - start) = omega arith in
    rw k (within_since (bytes_eq b.name name) (length env) i start (place_in env name) b.entry
    (meaning (since start env) name) l f h)
since_case start b env name i f (inl g) h =
    let k : suc (length env) - start ≡ 0 = omega arith in
    let w : i < suc (length env) = place_within (b ∷ env) name i h in
    rw k (grind (arith, nat_tests))

pub some_bound : (start : ℕ) (env : Env) (name : Word) (i : ℕ) → place_in env name ≡ Some i
    → is_bound (since start env) name ≡ nat_le start i
unfolding place_in
some_bound start [] name i h = cc
some_bound start (b ∷ env) name i h =
    since_case start b env name i (λ e. some_bound start env name i e) (cases_lt (length env) start) h

pub kept_place : (slots : List Slot) (latest : Latest) (env : Env) (name : Word) (o : Option ℕ) → IsKept slots latest
    → env_of slots ≡ env → place_at latest name ≡ o → place_in env name ≡ o
kept_place slots latest env name o k e h = ap (λ (x : Env). place_in x name) (sym e) ∙ sym (k.places name) ∙ h
