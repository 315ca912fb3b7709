-- Levels of the first symbols, and the least line of a conflict among them: one symbol more.
use Rattle.std.proofs.Common.{◌≡◌, ◌⊎◌, inl, inr, ⊎_elim, ◌≤◌, ◌<◌, ℕ, ◌*◌, ◌+◌, List, [], ◌∷◌, ◌++◌, length, Option, Some, None, Bool, true, false, min, slice_index_or, refl, sym, ap, subst, ◌∙◌, arith}
use Rattle.std.proofs.lemmas.Bool.{cases_eq, cases_lt}
use Rattle.std.proofs.lemmas.List.{get_or_append_left, get_or_at, length-append}
use Rattle.cl_groups.specs.Marks.{BearsTwo, BearsOne, Stands, AllStand, Conflict, IsLeast, lesser_of, noted_in}

pub one_stands : (carried : List (List ℕ)) (own : List (Option ℕ)) (odd otherwise : ℕ) (levels new : List ℕ) (k level : ℕ)
    → length levels ≡ k → AllStand carried own odd otherwise levels → Stands carried (slice_index_or own k None) (2 * k + odd) otherwise level
    → new ≡ levels ++ level ∷ [] → AllStand carried own odd otherwise new
one_stands carried own odd otherwise levels new k level n all here is =
    subst (λ ls. AllStand carried own odd otherwise ls) (sym is) each
  where
    one : (j : ℕ) → j < length levels + 1 → (j ≡ k) ⊎ (j ≡ k → ⊥)
        → Stands carried (slice_index_or own j None) (2 * j + odd) otherwise (slice_index_or (levels ++ level ∷ []) j 0)
    one j l (inl e) = subst (λ i. Stands carried (slice_index_or own i None) (2 * i + odd) otherwise (slice_index_or (levels ++ level ∷ []) i 0)) (sym e)
        (subst (λ x. Stands carried (slice_index_or own k None) (2 * k + odd) otherwise x) (sym (get_or_at levels level [] 0 k n)) here)
    one j l (inr e) = let b : j < length levels = omega arith in
        subst (λ x. Stands carried (slice_index_or own j None) (2 * j + odd) otherwise x) (sym (get_or_append_left levels (level ∷ []) 0 j b)) (all j b)

    each : AllStand carried own odd otherwise (levels ++ level ∷ [])
    each j l = let e = length-append levels (level ∷ []) in one j (omega arith) (cases_eq j k)

least_of_two : (P : ℕ → Type 0) (Q : ℕ → Type 0) (first : Option ℕ) (line : ℕ) → IsLeast P first → Q line → ((n : ℕ) → Q n → n ≡ line)
    → IsLeast (λ n. P n ⊎ Q n) (lesser_of first (Some line))
least_of_two P Q None line h q only = (inr q, λ n c. ⊎_elim (λ p. absurd (h n p)) (λ r. let e = only n r in omega arith) c)
least_of_two P Q (Some x) line h q only = (by (cases_lt line x), below)
  where
    by : (line < x) ⊎ (x ≤ line) → P (min x line) ⊎ Q (min x line)
    by (inl l) = inr (subst Q (omega arith) q)
    by (inr l) = inl (subst P (omega arith) h.0)

    below : (n : ℕ) → P n ⊎ Q n → min x line ≤ n
    below n (inl p) = let l = h.1 n p in omega arith
    below n (inr r) = let e = only n r in omega arith

pub same_least : (P Q : ℕ → Type 0) → ((n : ℕ) → P n → Q n) → ((n : ℕ) → Q n → P n) → (first : Option ℕ) → IsLeast P first → IsLeast Q first
same_least P Q into from None h = λ n q. h n (from n q)
same_least P Q into from (Some x) h = (into x h.0, λ n q. h.1 n (from n q))

module _ (carried : List (List ℕ)) (own : List (Option ℕ)) (lines : List ℕ) (odd : ℕ) where
  abbrev Here : ℕ → ℕ → Type 0
  Here k line = (slice_index_or own k None ≡ None) × (BearsTwo carried (2 * k + odd) × (slice_index_or lines k 0 ≡ line))

  widen : (k line : ℕ) → Conflict carried own lines odd k line → Conflict carried own lines odd (k + 1) line
  widen k line c = (c.0, (omega (arith, c.1.0), c.1.1))

  here : (k line : ℕ) → Here k line → Conflict carried own lines odd (k + 1) line
  here k line h = (k, (omega arith, h))

  split : (k line : ℕ) → Conflict carried own lines odd (k + 1) line → Conflict carried own lines odd k line ⊎ Here k line
  split k line c = by c.0 c.1.0 c.1.1 (cases_eq c.0 k)
    where
      by : (j : ℕ) → j < k + 1 → Here j line → (j ≡ k) ⊎ (j ≡ k → ⊥) → Conflict carried own lines odd k line ⊎ Here k line
      by j l h (inl e) = inr (subst (λ i. Here i line) e h)
      by j l h (inr e) = inl (j, (omega arith, h))

  pub one_noted : (first : Option ℕ) (b : Bool) (k line : ℕ) → line ≡ slice_index_or lines k 0
      → (b ≡ true → slice_index_or own k None ≡ None) → (b ≡ true → BearsTwo carried (2 * k + odd))
      → (b ≡ false → slice_index_or own k None ≡ None → BearsOne carried (2 * k + odd))
      → IsLeast (Conflict carried own lines odd k) first → IsLeast (Conflict carried own lines odd (k + 1)) (noted_in first b line)
  one_noted first false k line is free two one h =
      same_least (Conflict carried own lines odd k) (Conflict carried own lines odd (k + 1)) (widen k)
      (λ n c. ⊎_elim (λ p. p) (λ q. absurd (q.1.0.apart (one refl q.0 q.1.0.one q.1.0.other q.1.0.one_below q.1.0.other_below q.1.0.bears_one q.1.0.bears_other))) (split k n c)) first h
  one_noted first true k line is free two one h =
      same_least (λ n. Conflict carried own lines odd k n ⊎ Here k n) (Conflict carried own lines odd (k + 1))
      (λ n c. ⊎_elim (λ p. widen k n p) (λ q. here k n q) c) (λ n c. split k n c) (lesser_of first (Some line))
      (least_of_two (Conflict carried own lines odd k) (Here k) first line h (free refl, (two refl, sym is)) (λ n q. sym q.1.1 ∙ sym is))

-- the lesser of two least numbers
pub least_of_either : (P Q : ℕ → Type 0) (a b : Option ℕ) → IsLeast P a → IsLeast Q b → IsLeast (λ n. P n ⊎ Q n) (lesser_of a b)
least_of_either P Q None None f g = λ n c. ⊎_elim (λ p. f n p) (λ q. g n q) c
least_of_either P Q None (Some y) f g = (inr g.0, λ n c. ⊎_elim (λ p. absurd (f n p)) (λ q. g.1 n q) c)
least_of_either P Q (Some x) None f g = (inl f.0, λ n c. ⊎_elim (λ p. f.1 n p) (λ q. absurd (g n q)) c)
least_of_either P Q (Some x) (Some y) f g = (by (cases_lt y x), below)
  where
    by : (y < x) ⊎ (x ≤ y) → P (min x y) ⊎ Q (min x y)
    by (inl l) = inr (subst Q (omega arith) g.0)
    by (inr l) = inl (subst P (omega arith) f.0)

    below : (n : ℕ) → P n ⊎ Q n → min x y ≤ n
    below n (inl p) = let l = f.1 n p in omega arith
    below n (inr q) = let l = g.1 n q in omega arith
