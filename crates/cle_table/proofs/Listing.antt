-- Sorted lists of labels, one label after another.
use Rattle.std.proofs.Common.{◌≡◌, ◌↔◌, ◌⊎◌, inl, inr, ⊎_elim, ◌<◌, ◌+◌, ◌*◌, ℕ, List, [], ◌∷◌, ◌++◌, refl, sym, ap, subst, ◌∙◌, Bool, true, false, length, get_or, IsTrue, arith}
use Rattle.std.specs.List.{Contains}
use Rattle.std.proofs.lemmas.Bool.{cases_eq}
use Rattle.std.proofs.lemmas.List.{get_or_append_left, length-append}
use Rattle.std.proofs.Math.Seq.{get_or-append_seam}
use Rattle.std.proofs.lemmas.List.Elements.{Contains-append_left, Contains-push_cases, Contains-push}
use Rattle.cl_mean.specs.declared.labels.Mention.{Mention}
use Rattle.cl_mean.specs.declared.labels.Mention.TheVariants.{Label, Level}
use Rattle.cl_reach.specs.Reach.{Bears}
use Rattle.cle_ways.specs.Flow.{Before, Sorted}
use Rattle.cle_table.specs.Numbers.{label_number}
use Rattle.cle_table.specs.Lists.{Below, IsListed}
use Rattle.cle_table.proofs.Graphs.{later, first, none}

-- what holds of each of so many elements holds of one more
pub each_pushed : {A : Type 0} (P : ℕ → A → Type 0) (xs : List A) (x d : A) (n : ℕ) → length xs ≡ n → ((k : ℕ) → k < n → P k (get_or xs k d)) → P n x
    → (k : ℕ) → k < n + 1 → P k (get_or (xs ++ x ∷ []) k d)
each_pushed P xs x d n e f p k h = ⊎_elim
    (λ (i : k ≡ n). rw i (subst (λ y. P n y) (sym (ap (λ m. get_or (xs ++ x ∷ []) m d) (sym e) ∙ get_or-append_seam xs x [] d)) p))
    (λ (i : k ≡ n → ⊥). let less : k < n = less_than i in subst (λ y. P k y) (sym (get_or_append_left xs (x ∷ []) d k (subst (λ m. k < m) (sym e) less))) (f k less))
    (cases_eq k n)
  where
    less_than : (k ≡ n → ⊥) → k < n
    less_than i = omega (arith, i)

pub length_pushed : {A : Type 0} (xs : List A) (x : A) (n : ℕ) → length xs ≡ n → length (xs ++ x ∷ []) ≡ n + 1
length_pushed xs x n e = length-append xs (x ∷ []) ∙ ap (λ m. m + 1) e

sorted_push : (xs : List Mention) (m : Mention) → Sorted xs → ((n : Mention) → Contains xs n → Before n m) → Sorted (xs ++ m ∷ [])
unfolding Sorted
sorted_push [] m s f = ((λ n c. absurd (none n c)), tt)
sorted_push (x ∷ xs) m s f = (
  (λ n c. ⊎_elim (λ (l : Contains xs n). s.0 n l) (λ (e : m ≡ n). subst (λ y. Before x y) e (f x (first x xs))) (Contains-push_cases xs m n c)),
  sorted_push xs m s.1 (λ n c. f n (later x n xs c)),
)

pub listed_none : (bits : List (List ℕ)) (node : ℕ) → IsListed bits node 0 0 []
unfolding Sorted
listed_none bits node = record { sorted = tt; exact = λ m. ((λ c. absurd (none m c)), (λ p. absurd (not_below m p.0))) }
  where
    not_below : (m : Mention) → Below 0 0 m → ⊥
    not_below (Label k) h = omega (arith, h)
    not_below (Level k) h = omega (arith, h)

-- The next label in order, where it is one of the node, and where it isn't.
module _ (bits : List (List ℕ)) (node a b c d : ℕ) (l : Mention) (xs : List Mention) (h : IsListed bits node a b xs)
    (more : (m : Mention) → Below a b m → Below c d m) (cases : (m : Mention) → Below c d m → Below a b m ⊎ (l ≡ m))
    (own : Below c d l) (behind : (m : Mention) → Below a b m → Before m l) where
  pub listed_with : Bears bits (label_number l) node → IsListed bits node c d (xs ++ l ∷ [])
  listed_with p = record {
    sorted = sorted_push xs l h.sorted (λ n k. behind n ((h.exact n).0 k).0);
    exact = λ m. (in_list m, of_list m);
  }
    where
      in_list : (m : Mention) → Contains (xs ++ l ∷ []) m → Below c d m × Bears bits (label_number m) node
      in_list m k = ⊎_elim (λ (q : Contains xs m). (more m ((h.exact m).0 q).0, ((h.exact m).0 q).1)) (λ (e : l ≡ m). subst (λ y. Below c d y × Bears bits (label_number y) node) e (own, p)) (Contains-push_cases xs l m k)

      of_list : (m : Mention) → Below c d m × Bears bits (label_number m) node → Contains (xs ++ l ∷ []) m
      of_list m q = ⊎_elim (λ (r : Below a b m). Contains-append_left xs (l ∷ []) m ((h.exact m).1 (r, q.1))) (λ (e : l ≡ m). subst (λ y. Contains (xs ++ l ∷ []) y) e (Contains-push xs l)) (cases m q.0)

  pub listed_without : (Bears bits (label_number l) node → ⊥) → IsListed bits node c d xs
  listed_without p = record {
    sorted = h.sorted;
    exact = λ m. ((λ k. (more m ((h.exact m).0 k).0, ((h.exact m).0 k).1)), of_list m);
  }
    where
      of_list : (m : Mention) → Below c d m × Bears bits (label_number m) node → Contains xs m
      of_list m q = ⊎_elim (λ (r : Below a b m). (h.exact m).1 (r, q.1)) (λ (e : l ≡ m). absurd (p (subst (λ y. Bears bits (label_number y) node) (sym e) q.1))) (cases m q.0)

  pub listed_next : (new : List Mention) (there : Bool) → (IsTrue there ↔ Bears bits (label_number l) node) → (there ≡ true → new ≡ xs ++ l ∷ [])
      → (there ≡ false → new ≡ xs) → IsListed bits node c d new
  listed_next new true t f g = subst (λ ys. IsListed bits node c d ys) (sym (f refl)) (listed_with (t.0 refl))
  listed_next new false t f g = subst (λ ys. IsListed bits node c d ys) (sym (g refl)) (listed_without (λ p. let q = t.1 p in absurd (cc)))

pub label_next : (bits : List (List ℕ)) (node k : ℕ) (xs new : List Mention) (there : Bool) → IsListed bits node k 0 xs
    → (IsTrue there ↔ Bears bits (k * 2) node) → (there ≡ true → new ≡ xs ++ Label k ∷ []) → (there ≡ false → new ≡ xs) → IsListed bits node (k + 1) 0 new
label_next bits node k xs new there h t f g = listed_next bits node k 0 (k + 1) 0 (Label k) xs h more cases (omega arith) behind new there t f g
  where
    more : (m : Mention) → Below k 0 m → Below (k + 1) 0 m
    more (Label i) q = omega (arith, q)
    more (Level i) q = q

    cases : (m : Mention) → Below (k + 1) 0 m → Below k 0 m ⊎ (Label k ≡ m)
    cases (Label i) q = ⊎_elim (λ (e : i ≡ k). inr (ap Label (sym e))) (λ (e : i ≡ k → ⊥). inl (omega (arith, q, e))) (cases_eq i k)
    cases (Level i) q = inl q

    behind : (m : Mention) → Below k 0 m → Before m (Label k)
    behind (Label i) q = q
    behind (Level i) q = absurd (omega (arith, q))

pub level_next : (bits : List (List ℕ)) (node a k : ℕ) (xs new : List Mention) (there : Bool) → IsListed bits node a k xs
    → (IsTrue there ↔ Bears bits (k * 2 + 1) node) → (there ≡ true → new ≡ xs ++ Level k ∷ []) → (there ≡ false → new ≡ xs) → IsListed bits node a (k + 1) new
level_next bits node a k xs new there h t f g = listed_next bits node a k a (k + 1) (Level k) xs h more cases (omega arith) behind new there t f g
  where
    more : (m : Mention) → Below a k m → Below a (k + 1) m
    more (Label i) q = q
    more (Level i) q = omega (arith, q)

    cases : (m : Mention) → Below a (k + 1) m → Below a k m ⊎ (Level k ≡ m)
    cases (Label i) q = inl q
    cases (Level i) q = ⊎_elim (λ (e : i ≡ k). inr (ap Level (sym e))) (λ (e : i ≡ k → ⊥). inl (omega (arith, q, e))) (cases_eq i k)

    behind : (m : Mention) → Below a k m → Before m (Level k)
    behind (Label i) q = tt
    behind (Level i) q = q
