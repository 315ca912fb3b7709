-- Bags of names, and the lists of which they have the names.
use Rattle.std.proofs.Common.{◌≡◌, ℕ, zero, suc, ◌<◌, ◌≤◌, ◌+◌, ◌-◌, ◌^◌, min, List, [], ◌∷◌, length, refl, sym, ap, ◌∙◌, arith, Bool, true, false, nat_lt, ◌||◌, if◌then◌else◌, Option, Some, None, bytes_eq, rules}
use Rattle.std.proofs.lemmas.Slice.Eq.{bytes_eq-Decides}
use Rattle.std.proofs.lemmas.Bool.Decides.{nat_tests}
use Rattle.std.specs.Map.{update}
use Rattle.std.specs.List.{list_any}
use Rattle.cl_tree.specs.Words.{Word}
use Rattle.cl_labelling.specs.Names.{has_word}
use Rattle.cl_labelling.specs.Regions.{without}
use Rattle.cl_scope.proofs.Places.{same_name, same_bytes}
use Rattle.cl_regions.specs.Few.{none, one, many, few}
use Rattle.cl_regions.specs.Bag.{entry_at, entry_for, counted, occurs, Holds}
use Rattle.cl_regions.specs.declared.bag.Bag.{Bag}

pub swap : (a b : Word) → bytes_eq a b ≡ bytes_eq b a
swap a b = search (rules, bytes_eq-Decides)

-- ---- how often a name is there

has_case : (b : Bool) (n : ℕ) (rest : Bool) → nat_lt 0 n ≡ rest → nat_lt 0 (if b then suc n else n) ≡ (b || rest)
has_case true n rest e = grind (arith, nat_tests)
has_case false n rest e = e

pub has_occurs : (ws : List Word) (name : Word) → nat_lt 0 (occurs ws name) ≡ has_word ws name
unfolding occurs has_word
has_occurs [] name = refl
has_occurs (w ∷ ws) name = rw (swap name w) (has_case (bytes_eq w name) (occurs ws name)
    (list_any (bytes_eq name) ws) (has_occurs ws name))

abbrev pub less : ℕ → ℕ
less zero = zero
less (suc n) = n

-- without one of a name
none_left_case : (b : Bool) (n : ℕ) (w : Word) (ws vs : List Word) → (if b then suc n else n) ≡ 0
    → (n ≡ 0 → vs ≡ ws) → (if b then ws else w ∷ vs) ≡ w ∷ ws
none_left_case true n w ws vs e f = absurd (omega arith)
none_left_case false n w ws vs e f = ap (λ (xs : List Word). w ∷ xs) (f e)

pub without_none : (ws : List Word) (name : Word) → occurs ws name ≡ 0 → without ws name ≡ ws
unfolding occurs without
without_none [] name e = refl
without_none (w ∷ ws) name e =
    none_left_case (bytes_eq w name) (occurs ws name) w ws (without ws name) e (λ f. without_none ws name f)

length_case : (b : Bool) (n m : ℕ) (w : Word) (ws vs : List Word) → (if b then suc n else n) ≡ suc m
    → ((k : ℕ) → n ≡ suc k → suc (length vs) ≡ length ws) → suc (length (if b then ws else w ∷ vs)) ≡ suc (length ws)
length_case true n m w ws vs e f = refl
length_case false n m w ws vs e f = ap suc (f m e)

pub without_length : (ws : List Word) (name : Word) (n : ℕ) → occurs ws name ≡ suc n
    → suc (length (without ws name)) ≡ length ws
unfolding occurs without
without_length [] name n e = absurd (cc)
without_length (w ∷ ws) name n e =
    length_case (bytes_eq w name) (occurs ws name) n w ws (without ws name) e
    (λ k f. without_length ws name k f)

here_case : (a b : Bool) (o : ℕ) → a ≡ b → o ≡ (if b then less (if a then suc o else o) else if a then suc o else o)
here_case true true o e = refl
here_case false false o e = refl
here_case true false o e = absurd (cc)
here_case false true o e = absurd (cc)

later_case : (a b : Bool) (o v : ℕ) → (a ≡ true → b ≡ true → ⊥) → v ≡ (if b then less o else o)
    → (if a then suc v else v) ≡ (if b then less (if a then suc o else o) else if a then suc o else o)
later_case true true o v f e = absurd (f refl refl)
later_case true false o v f e = ap suc e
later_case false true o v f e = e
later_case false false o v f e = e

without_case : (b : Bool) (w name q : Word) (ws vs : List Word) → bytes_eq w name ≡ b
    → occurs vs q ≡ (if bytes_eq name q then less (occurs ws q) else occurs ws q)
    → occurs (if b then ws else w ∷ vs) q ≡ (if bytes_eq name q then less (occurs (w ∷ ws) q) else occurs (w ∷ ws) q)
unfolding occurs
without_case true w name q ws vs e h =
    here_case (bytes_eq w q) (bytes_eq name q) (occurs ws q) (ap (λ (x : Word). bytes_eq x q) (same_name w name e))
without_case false w name q ws vs e h =
    later_case (bytes_eq w q) (bytes_eq name q) (occurs ws q) (occurs vs q)
    (λ f g. let k : w ≡ name = same_name w q f ∙ sym (same_name name q g) in
    let l : bytes_eq w name ≡ true = rw k (same_bytes name) in absurd (cc)) h

empty_case : (b : Bool) (q : Word) → occurs [] q ≡ (if b then less (occurs [] q) else occurs [] q)
unfolding occurs
empty_case true q = refl
empty_case false q = refl

pub without_occurs : (ws : List Word) (name q : Word)
    → occurs (without ws name) q ≡ (if bytes_eq name q then less (occurs ws q) else occurs ws q)
unfolding without
without_occurs [] name q = empty_case (bytes_eq name q) q
without_occurs (w ∷ ws) name q =
    without_case (bytes_eq w name) w name q ws (without ws name) refl (without_occurs ws name q)

-- ---- a bag after a change

count_of : (name : Word) (n : ℕ) → counted (entry_for name n) ≡ n
count_of name zero = refl
count_of name (suc n) = refl

pub count_is : (bag : Bag) (ws : List Word) (name : Word) → Holds bag ws → counted (entry_at bag name) ≡ occurs ws name
count_is bag ws name h = ap counted (h.each name) ∙ count_of name (occurs ws name)

pub has_is : (bag : Bag) (ws : List Word) (name : Word) → Holds bag ws
    → nat_lt 0 (counted (entry_at bag name)) ≡ has_word ws name
has_is bag ws name h = ap (nat_lt 0) (count_is bag ws name h) ∙ has_occurs ws name

add_case : (b : Bool) (name q : Word) (n : ℕ) → (b ≡ true → name ≡ q)
    → (if b then Some (name, suc n) else entry_for q n) ≡ entry_for q (if b then suc n else n)
add_case true name q n f = ap (λ (x : Word). Some (x, suc n)) (f refl)
add_case false name q n f = refl

-- where the two names are one, their counts are
add_counts : (b : Bool) (name q : Word) (n m : ℕ) (e : Option (Word × ℕ)) → (b ≡ true → name ≡ q) → (b ≡ true → n ≡ m)
    → e ≡ entry_for q m → (if b then Some (name, suc n) else e) ≡ entry_for q (if b then suc m else m)
add_counts true name q n m e f g h = rw (f refl, g refl) refl
add_counts false name q n m e f g h = h

occurs_case : (b : Bool) (n m : ℕ) → n ≤ m → (if b then suc n else n) ≤ suc m
occurs_case true n m h = omega arith
occurs_case false n m h = omega arith

pub occurs_few : (ws : List Word) (name : Word) → occurs ws name ≤ length ws
unfolding occurs
occurs_few [] name = omega arith
occurs_few (w ∷ ws) name = occurs_case (bytes_eq w name) (occurs ws name) (length ws) (occurs_few ws name)

pub one_more : (bag : Bag) (ws : List Word) (name : Word) (n count : ℕ) → Holds bag ws
    → n ≡ counted (entry_at bag name) → count ≡ min (n + 1) (2 ^ 64 - 1) → length ws < 2 ^ 64 - 1
    → count ≡ suc (occurs ws name)
one_more bag ws name n count h e f l =
    let g : n ≡ occurs ws name = e ∙ count_is bag ws name h in
    let k : occurs ws name ≤ length ws = occurs_few ws name in omega arith

pub added : (old new : Bag) (ws : List Word) (name : Word) (count : ℕ) → Holds old ws → count ≡ suc (occurs ws name)
    → ((q : Word) → entry_at new q ≡ update bytes_eq (entry_at old) name (Some (name, count)) q)
    → new.total ≡ suc (length ws) → Holds new (name ∷ ws)
unfolding occurs
added old new ws name count h e u t = record {
  each = λ q. u q ∙ ap (λ (c : ℕ). if bytes_eq name q then Some (name, c) else entry_at old q) e
      ∙ add_counts (bytes_eq name q) name q (occurs ws name) (occurs ws q) (entry_at old q) (same_name name q)
      (λ f. ap (occurs ws) (same_name name q f)) (h.each q);
  total = t;
}

take_case : (b : Bool) (name q : Word) (n m : ℕ) (e : Option (Word × ℕ)) → (b ≡ true → name ≡ q) → (b ≡ true → suc n ≡ m)
    → e ≡ entry_for q m → (if b then entry_for name n else e) ≡ entry_for q (if b then less m else m)
take_case true name q n m e f g h = rw (f refl, ← g refl) refl
take_case false name q n m e f g h = h

pub taken : (old new : Bag) (ws : List Word) (name : Word) (left : ℕ) → Holds old ws → suc left ≡ occurs ws name
    → ((q : Word) → entry_at new q ≡ update bytes_eq (entry_at old) name (entry_for name left) q)
    → suc new.total ≡ length ws → Holds new (without ws name)
taken old new ws name left h e u t =
    let l : suc (length (without ws name)) ≡ length ws = without_length ws name left (sym e) in
    record {
      each = λ q. u q ∙ take_case (bytes_eq name q) name q left (occurs ws q) (entry_at old q) (same_name name q)
          (λ f. e ∙ ap (occurs ws) (same_name name q f)) (h.each q) ∙ ap (entry_for q) (sym (without_occurs ws name q));
      total = omega arith;
    }

pub not_taken : (bag : Bag) (ws : List Word) (name : Word) → Holds bag ws → counted (entry_at bag name) ≡ 0
    → Holds bag (without ws name)
not_taken bag ws name h e = rw (without_none ws name (sym (count_is bag ws name h) ∙ e)) h

-- ---- the names of a bag that has few

abbrev name_in : Option (Word × ℕ) → Word
name_in None = []
name_in (Some e) = e.0

no_entry : (e : Word × ℕ) → Some e ≡ None → ⊥
no_entry e h = cc

lone_case : (b : Bool) (w k name : Word) (count : ℕ) → (b ≡ true → w ≡ k)
    → Some (name, count) ≡ entry_for k (if b then 1 else 0) → one name ≡ one w
lone_case true w k name count f e = ap one (ap name_in e ∙ sym (f refl))
lone_case false w k name count f e = absurd (no_entry (name, count) e)

pub lone : (bag : Bag) (ws : List Word) (k name : Word) (count : ℕ) → Holds bag ws → bag.total ≤ 1
    → entry_at bag k ≡ Some (name, count) → one name ≡ few ws
unfolding occurs
lone bag [] k name count h l e = absurd (no_entry (name, count) (sym e ∙ h.each k))
lone bag (w ∷ []) k name count h l e = lone_case (bytes_eq w k) w k name count (same_name w k) (sym e ∙ h.each k)
lone bag (w ∷ v ∷ ws) k name count h l e = let t : bag.total ≡ suc (suc (length ws)) = h.total in absurd (omega arith)

first_case : (b : Bool) (k : Word) → b ≡ true → None ≡ entry_for k (if b then 1 else 0) → ⊥
first_case true k e f = cc
first_case false k e f = cc

pub nothing : (bag : Bag) (ws : List Word) → Holds bag ws → bag.total ≤ 1 → ((k : Word) → entry_at bag k ≡ None)
    → none ≡ few ws
unfolding occurs
nothing bag [] h l e = refl
nothing bag (w ∷ []) h l e = absurd (first_case (bytes_eq w w) w (same_bytes w) (sym (e w) ∙ h.each w))
nothing bag (w ∷ v ∷ ws) h l e = let t : bag.total ≡ suc (suc (length ws)) = h.total in absurd (omega arith)

pub several : (bag : Bag) (ws : List Word) → Holds bag ws → 1 < bag.total → many ≡ few ws
several bag [] h l = let t : bag.total ≡ 0 = h.total in absurd (omega arith)
several bag (w ∷ []) h l = let t : bag.total ≡ 1 = h.total in absurd (omega arith)
several bag (w ∷ v ∷ ws) h l = refl

pub no_entries : {X : Type 0} → (xs : List X) → (0 < length xs → ⊥) → xs ≡ []
no_entries [] h = refl
no_entries (x ∷ xs) h = absurd (h (omega arith))

pub none_there : (bag : Bag) → bag.held.entries ≡ [] → (k : Word) → entry_at bag k ≡ None
none_there bag e k = rw e refl
