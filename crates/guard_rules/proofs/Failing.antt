-- The places of those that don't pass.
use Rattle.std.proofs.Common.{◌≡◌, ℕ, suc, ◌+◌, ◌<◌, ◌≤◌, add-one, arith, List, [], ◌∷◌, ◌++◌, length, map, drop, get_or, refl, sym, ap, subst, ◌∙◌, Bool, true, false, not, if◌then◌else◌, Option, Some, None}
use Rattle.std.specs.List.{position, position_from}
use Rattle.std.specs.Option.{is_some}
use Rattle.std.proofs.lemmas.Iterator.Adapters.{position_from-zero}
use Rattle.std.proofs.lemmas.List.{drop_all}
use Rattle.std.proofs.lemmas.Option.{none-some, same_Some}
use Rattle.cl_typing.specs.Rules.{Lines, unless, Begins}
use Rattle.guard_rules.specs.Policy.{failing}
use Rattle.guard_rules.specs.Answer.{IsPlace, IsStop}
use Rattle.guard_rules.specs.declared.policy.PolicyStop.{PolicyStop}
use Rattle.guard_rules.specs.declared.policy.PolicyStop.TheVariants as stop
use Rattle.guard_rules.proofs.Each.{head_of}

module _ {A : Type 0} (passes : A → Bool) where
  pass_on : (k : ℕ) (x : A) (xs : List A) (whole : Lines) → passes x ≡ true → failing passes k (x ∷ xs) ≡ whole → failing passes (suc k) xs ≡ whole
  unfolding failing
  pass_on k x xs whole does before = sym (ap (λ (b : Bool). unless b k ++ failing passes (suc k) xs) does) ∙ before

  fail_on : (k at : ℕ) (x : A) (xs : List A) (whole : Lines) → passes x ≡ false → at ≡ k → failing passes k (x ∷ xs) ≡ whole → Begins whole at
  unfolding failing
  fail_on k at x xs whole fails here before =
      (failing passes (suc k) xs, sym before ∙ ap (λ (b : Bool). unless b k ++ failing passes (suc k) xs) fails ∙ ap (λ (p : ℕ). p ∷ failing passes (suc k) xs) (sym here))

  pub pass_more : (xs : List A) (x : A) (i : ℕ) (whole : Lines) → i < length xs → x ≡ get_or xs i x → passes x ≡ true
      → failing passes (i + 1) (drop i xs) ≡ whole → failing passes (i + 1 + 1) (drop (i + 1) xs) ≡ whole
  pass_more xs x i whole h is does before =
      rw (add-one, add-one) (pass_on (suc i) x (drop (suc i) xs) whole does (subst (λ (ys : List A). failing passes (suc i) ys ≡ whole) (head_of xs x i h is) (rw add-one at before)))

  pub fail_here : (xs : List A) (x : A) (i at : ℕ) (whole : Lines) → i < length xs → x ≡ get_or xs i x → passes x ≡ false → at ≡ i + 1
      → failing passes (i + 1) (drop i xs) ≡ whole → Begins whole at
  fail_here xs x i at whole h is fails here before =
      fail_on (i + 1) at x (drop (suc i) xs) whole fails here (subst (λ (ys : List A). failing passes (i + 1) ys ≡ whole) (head_of xs x i h is) before)

  pub none_left : (xs : List A) (i : ℕ) (whole : Lines) → length xs ≤ i → failing passes (i + 1) (drop i xs) ≡ whole → whole ≡ []
  unfolding failing
  none_left xs i whole h before = sym (subst (λ (ys : List A). failing passes (i + 1) ys ≡ whole) (drop_all i xs h) before)

  -- the same for the parts of a list by what they are seen as
  module _ {C : Type 0} (v : C → A) where
    pub pass_seen : (parts : List C) (p : C) (i : ℕ) (whole : Lines) → i < length parts → p ≡ get_or parts i p → passes (v p) ≡ true
        → failing passes (i + 1) (map v (drop i parts)) ≡ whole → failing passes (i + 1 + 1) (map v (drop (i + 1) parts)) ≡ whole
    pass_seen parts p i whole h is does before =
        rw (add-one, add-one) (pass_on (suc i) (v p) (map v (drop (suc i) parts)) whole does (subst (λ (ys : List C). failing passes (suc i) (map v ys) ≡ whole) (head_of parts p i h is) (rw add-one at before)))

    pub fail_seen : (parts : List C) (p : C) (i at : ℕ) (whole : Lines) → i < length parts → p ≡ get_or parts i p → passes (v p) ≡ false → at ≡ i + 1
        → failing passes (i + 1) (map v (drop i parts)) ≡ whole → Begins whole at
    fail_seen parts p i at whole h is fails here before =
        fail_on (i + 1) at (v p) (map v (drop (suc i) parts)) whole fails here (subst (λ (ys : List C). failing passes (i + 1) (map v ys) ≡ whole) (head_of parts p i h is) before)

    pub none_seen : (parts : List C) (i : ℕ) (whole : Lines) → length parts ≤ i → failing passes (i + 1) (map v (drop i parts)) ≡ whole → whole ≡ []
    unfolding failing
    none_seen parts i whole h before = sym (subst (λ (ys : List C). failing passes (i + 1) (map v ys) ≡ whole) (drop_all i parts h) before)

  -- ---- by the first that doesn't

  abbrev first_from : ℕ → List A → Option ℕ
  first_from k xs = position_from (λ x. not (passes x)) k xs

  none_step : (x : A) (xs : List A) (j k : ℕ) (b : Bool) → (if not b then Some j else first_from (j + 1) xs) ≡ None → (first_from (j + 1) xs ≡ None → failing passes (suc k) xs ≡ []) → unless b k ++ failing passes (suc k) xs ≡ []
  none_step x xs j k true e rest = rest e
  none_step x xs j k false e rest = absurd (none-some j (sym e))

  none_from : (j k : ℕ) (xs : List A) → first_from j xs ≡ None → failing passes k xs ≡ []
  unfolding failing
  none_from j k [] e = refl
  none_from j k (x ∷ xs) e = none_step x xs j k (passes x) e (none_from (j + 1) (suc k) xs)

  pub none_fails : (k : ℕ) (xs : List A) → position (λ x. not (passes x)) xs ≡ None → failing passes k xs ≡ []
  none_fails k xs e = none_from 0 k xs (sym (position_from-zero (λ x. not (passes x)) xs) ∙ e)

  one_step : (x : A) (xs : List A) (j k at place : ℕ) (b : Bool) → place + j ≡ at + k → (if not b then Some j else first_from (j + 1) xs) ≡ Some at → (first_from (j + 1) xs ≡ Some at → Begins (failing passes (suc k) xs) place) → Begins (unless b k ++ failing passes (suc k) xs) place
  one_step x xs j k at place true h e rest = rest e
  one_step x xs j k at place false h e rest =
      let s : j ≡ at = same_Some j at e in
      let here : k ≡ place = omega (arith, s, h) in
      (failing passes (suc k) xs, ap (λ (p : ℕ). p ∷ failing passes (suc k) xs) here)

  one_from : (j k at place : ℕ) (xs : List A) → place + j ≡ at + k → first_from j xs ≡ Some at → Begins (failing passes k xs) place
  unfolding failing
  one_from j k at place [] h e = absurd (none-some at e)
  one_from j k at place (x ∷ xs) h e = one_step x xs j k at place (passes x) h e (one_from (j + 1) (suc k) at place xs (omega (arith, h)))

  pub one_fails : (at place : ℕ) (xs : List A) → position (λ x. not (passes x)) xs ≡ Some at → place ≡ at + 1 → Begins (failing passes 1 xs) place
  one_fails at place xs e h = one_from 0 1 at place xs (omega (arith, h)) (sym (position_from-zero (λ x. not (passes x)) xs) ∙ e)

-- those of a list by their tests alone
pub failing_by : {A : Type 0} (passes : A → Bool) (k : ℕ) (xs : List A) → failing passes k xs ≡ failing (λ b. b) k (map passes xs)
unfolding failing
failing_by passes k [] = refl
failing_by passes k (x ∷ xs) = ap (λ (ls : Lines). unless (passes x) k ++ ls) (failing_by passes (suc k) xs)

-- by the tests of other things that are the same
pub failing_same : {A B : Type 0} (f : A → Bool) (g : B → Bool) (k : ℕ) (xs : List A) (ys : List B) → map f xs ≡ map g ys → failing f k xs ≡ failing g k ys
failing_same f g k xs ys e = failing_by f k xs ∙ ap (failing (λ b. b) k) e ∙ sym (failing_by g k ys)

-- what isn't there
pub not_there : {A : Type 0} (value : Option A) → value ≡ None → Begins (unless (is_some value) 0) 0
not_there value e = ([], ap (λ v. unless (is_some v) 0) e)

-- the stop at the first that doesn't pass
pub stops_at : (number index : ℕ) (places : Lines) (e : PolicyStop) → IsStop number index e → ((at : ℕ) → at ≡ index + 1 → Begins places at) → IsPlace number places e
stops_at number index places (stop.Rule n at) is begins = (is.0, begins at is.1)
stops_at number index places stop.NoMemory is begins = tt
