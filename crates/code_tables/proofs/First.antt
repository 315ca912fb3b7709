-- The first function of a name.
use Rattle.std.proofs.Common.{◌≡◌, ℕ, suc, zero, ◌+◌, ◌<◌, ◌≤◌, arith, List, [], ◌∷◌, map, length, drop, get_or, refl, sym, ap, ◌∙◌, subst, add-one, drop-cons, Bool, true, false, if◌then◌else◌, Option, Some, None, option_map, bytes_eq, slice_get}
use Rattle.cl_tree.specs.Words.{Word}
use Rattle.code_forms.specs.Layout as layout
use Rattle.code_tables.specs.declared.facts.Callee.{Callee}
use Rattle.code_tables.specs.Facts.{Called, called, callee_by, place_from, first_of}

pub first_none : (o : Option ℕ) → first_of o None ≡ o
first_none None = refl
first_none (Some k) = refl

pub none_first : (o : Option ℕ) → first_of None o ≡ o
none_first o = refl

step_case : (o : Option ℕ) (b : Bool) (i : ℕ) (rest : Option ℕ)
    → first_of (first_of o (if b then Some i else None)) rest ≡ first_of o (if b then Some i else rest)
step_case None true i rest = refl
step_case None false i rest = refl
step_case (Some k) b i rest = refl

-- one function further
pub place_step : (all : List Callee) (c : Callee) (i : ℕ) (old new : Option ℕ) (q : Word) (whole : Option ℕ)
    → i < length all → c ≡ get_or all i c → new ≡ first_of old (if bytes_eq c.name.now q then Some i else None)
    → first_of old (place_from i (map called (drop i all)) q) ≡ whole → first_of new (place_from (i + 1) (map called (drop (i + 1) all)) q) ≡ whole
unfolding place_from
place_step all c i old new q whole h is e rest =
    let d : drop i all ≡ c ∷ drop (suc i) all = drop-cons all i c h ∙ ap (λ (x : Callee). x ∷ drop (suc i) all) (sym is) in
    let r : first_of old (if bytes_eq c.name.now q then Some i else place_from (suc i) (map called (drop (suc i) all)) q) ≡ whole =
    subst (λ (xs : List Callee). first_of old (place_from i (map called xs) q) ≡ whole) d rest in
    rw (add-one, e) (step_case old (bytes_eq c.name.now q) i (place_from (suc i) (map called (drop (suc i) all)) q) ∙ r)

-- a name that has a place keeps it
pub kept : (b : Bool) (o : Option ℕ) (i k : ℕ) (old : Word → Option ℕ) (name q : Word) → (b ≡ true → name ≡ q) → old name ≡ Some k
    → old q ≡ first_of (old q) (if b then Some i else None)
kept true o i k old name q same h =
    let e : old q ≡ Some k = ap old (sym (same refl)) ∙ h in rw e refl
kept false o i k old name q same h = sym (first_none (old q))

-- a name that has none takes one
pub taken : (b : Bool) (i : ℕ) (old : Word → Option ℕ) (name q : Word) → (b ≡ true → name ≡ q) → old name ≡ None
    → (if b then Some i else old q) ≡ first_of (old q) (if b then Some i else None)
taken true i old name q same h = let e : old q ≡ None = ap old (sym (same refl)) ∙ h in rw e refl
taken false i old name q same h = sym (first_none (old q))

nothing_left : (all : List Callee) (i : ℕ) → length all ≤ i → drop i all ≡ []
nothing_left [] zero h = refl
nothing_left [] (suc i) h = refl
nothing_left (f ∷ fs) zero h = absurd (omega arith)
nothing_left (f ∷ fs) (suc i) h = nothing_left fs i (omega arith)

-- no function is left
pub place_end : (all : List Callee) (i : ℕ) (o : Option ℕ) (q : Word) (whole : Option ℕ) → length all ≤ i
    → first_of o (place_from i (map called (drop i all)) q) ≡ whole → o ≡ whole
unfolding place_from
place_end all i o q whole h rest =
    sym (first_none o) ∙ subst (λ (xs : List Callee). first_of o (place_from i (map called xs) q) ≡ whole) (nothing_left all i h) rest

-- ---- what stands there

none_case : (b : Bool) (k : ℕ) (o : Option ℕ) (c : layout.Callee) (p : Option layout.Callee) → (if b then Some k else o) ≡ None → (o ≡ None → p ≡ None) → (if b then Some c else p) ≡ None
none_case true k o c p e f = cc
none_case false k o c p e f = f e

pub not_there : (cs : List Called) (k : ℕ) (name : Word) → place_from k cs name ≡ None → layout.callee_of (map callee_by cs) name ≡ None
unfolding place_from layout.callee_of
not_there [] k name e = refl
not_there (c ∷ cs) k name e = none_case (bytes_eq c.name name) k (place_from (suc k) cs name) (callee_by c) (layout.callee_of (map callee_by cs) name) e (not_there cs (suc k) name)

some_case : (b : Bool) (k i : ℕ) (o : Option ℕ) → (if b then Some k else o) ≡ Some i → (o ≡ Some i → suc k ≤ i) → k ≤ i
some_case true k i o e f = let h : k ≡ i = cc in omega arith
some_case false k i o e f = let h : suc k ≤ i = f e in omega arith

at_least : (cs : List Called) (k i : ℕ) (name : Word) → place_from k cs name ≡ Some i → k ≤ i
unfolding place_from
at_least [] k i name e = cc
at_least (c ∷ cs) k i name e = some_case (bytes_eq c.name name) k i (place_from (suc k) cs name) e (at_least cs (suc k) i name)

abbrev seen : Callee → layout.Callee
seen c = callee_by (called c)

found_case : (b : Bool) (k j : ℕ) (o : Option ℕ) (c : Callee) (cs : List Callee) (p : Option layout.Callee) → (if b then Some k else o) ≡ Some (k + j)
    → (o ≡ Some (k + j) → suc k ≤ k + j) → ((i : ℕ) → o ≡ Some (suc k + i) → p ≡ option_map seen (slice_get cs i))
    → (if b then Some (seen c) else p) ≡ option_map seen (slice_get (c ∷ cs) j)
found_case true k zero o c cs p e f g = refl
found_case true k (suc j) o c cs p e f g = let h : k ≡ k + suc j = cc in absurd (omega (arith, h))
found_case false k zero o c cs p e f g = let h : suc k ≤ k + 0 = f e in absurd (omega (arith, h))
found_case false k (suc j) o c cs p e f g = let h : k + suc j ≡ suc k + j = omega arith in g j (e ∙ ap (λ (n : ℕ). Some n) h)

found_from : (cs : List Callee) (k j : ℕ) (name : Word) → place_from k (map called cs) name ≡ Some (k + j)
    → layout.callee_of (map callee_by (map called cs)) name ≡ option_map seen (slice_get cs j)
unfolding place_from layout.callee_of
found_from [] k j name e = cc
found_from (c ∷ cs) k j name e =
    found_case (bytes_eq c.name.now name) k j (place_from (suc k) (map called cs) name) c cs (layout.callee_of (map callee_by (map called cs)) name) e
    (at_least (map called cs) (suc k) (k + j) name) (λ i h. found_from cs (suc k) i name h)

pub found : (cs : List Callee) (i : ℕ) (name : Word) → place_from 0 (map called cs) name ≡ Some i
    → layout.callee_of (map callee_by (map called cs)) name ≡ option_map seen (slice_get cs i)
found cs i name e = let h : i ≡ 0 + i = omega arith in found_from cs 0 i name (e ∙ ap (λ (n : ℕ). Some n) h)
