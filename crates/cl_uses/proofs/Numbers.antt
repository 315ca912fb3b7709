-- The number of the first function of a name.
use Rattle.std.proofs.Common.{◌≡◌, ℕ, suc, zero, ◌+◌, ◌<◌, ◌≤◌, arith, List, [], ◌∷◌, length, drop, get_or, refl, sym, ap, ◌∙◌, subst, add-one, drop-cons, Bool, true, false, if◌then◌else◌, Option, Some, None, bytes_eq}
use Rattle.cl_tree.specs.Words.{Word}
use Rattle.cl_mean.specs.declared.checked.FnFact.{FnFact}
use Rattle.cl_levels.specs.Uses.{number_from}
use Rattle.cl_uses.specs.Numbers.{either}

pub either_none : (o : Option ℕ) → either o None ≡ o
either_none None = refl
either_none (Some k) = refl

step_case : (o : Option ℕ) (b : Bool) (i : ℕ) (rest : Option ℕ)
    → either (either o (if b then Some i else None)) rest ≡ either o (if b then Some i else rest)
step_case None true i rest = refl
step_case None false i rest = refl
step_case (Some k) b i rest = refl

-- one function further
pub number_step : (all : List FnFact) (f : FnFact) (i : ℕ) (old new : Option ℕ) (q : Word) (whole : Option ℕ)
    → i < length all → f ≡ get_or all i f → new ≡ either old (if bytes_eq f.name q then Some i else None)
    → either old (number_from i (drop i all) q) ≡ whole → either new (number_from (i + 1) (drop (i + 1) all) q) ≡ whole
unfolding number_from
number_step all f i old new q whole h is e rest =
    let d : drop i all ≡ f ∷ drop (suc i) all = drop-cons all i f h ∙ ap (λ (x : FnFact). x ∷ drop (suc i) all) (sym is) in
    let r : either old (if bytes_eq f.name q then Some i else number_from (suc i) (drop (suc i) all) q) ≡ whole =
    subst (λ (xs : List FnFact). either old (number_from i xs q) ≡ whole) d rest in
    rw (add-one, e) (step_case old (bytes_eq f.name q) i (number_from (suc i) (drop (suc i) all) q) ∙ r)

-- a name that has a number keeps it
pub kept : (b : Bool) (o : Option ℕ) (i k : ℕ) (old : Word → Option ℕ) (name q : Word) → (b ≡ true → name ≡ q) → old name ≡ Some k
    → old q ≡ either (old q) (if b then Some i else None)
kept true o i k old name q same h =
    let e : old q ≡ Some k = ap old (sym (same refl)) ∙ h in rw e refl
kept false o i k old name q same h = sym (either_none (old q))

-- a name that has none takes one
pub taken : (b : Bool) (i : ℕ) (old : Word → Option ℕ) (name q : Word) → (b ≡ true → name ≡ q) → old name ≡ None
    → (if b then Some i else old q) ≡ either (old q) (if b then Some i else None)
taken true i old name q same h = let e : old q ≡ None = ap old (sym (same refl)) ∙ h in rw e refl
taken false i old name q same h = sym (either_none (old q))

nothing_left : (all : List FnFact) (i : ℕ) → length all ≤ i → drop i all ≡ []
nothing_left [] zero h = refl
nothing_left [] (suc i) h = refl
nothing_left (f ∷ fs) zero h = absurd (omega arith)
nothing_left (f ∷ fs) (suc i) h = nothing_left fs i (omega arith)

-- no function is left
pub number_end : (all : List FnFact) (i : ℕ) (o : Option ℕ) (q : Word) (whole : Option ℕ) → length all ≤ i
    → either o (number_from i (drop i all) q) ≡ whole → o ≡ whole
unfolding number_from
number_end all i o q whole h rest =
    sym (either_none o) ∙ subst (λ (xs : List FnFact). either o (number_from i xs q) ≡ whole) (nothing_left all i h) rest
