-- What a number at a place makes of a row, of rows and of all numbers.
use Rattle.std.proofs.Common.{◌≡◌, ◌⊎◌, inl, inr, ⊎_elim, ◌<◌, ℕ, List, [], sym, ap, subst, ◌∙◌, Option, Some, None, Result, OnOk, Ok, Err, length, get_or, set}
use Rattle.std.proofs.lemmas.List.{get_or-set_same, get_or-set_other}
use Rattle.std.proofs.lemmas.Bool.{cases_eq}
use Rattle.cl_base.specs.declared.name.NoMemory.{NoMemory}
use Rattle.cle_ways.specs.declared.ways.Holder.{Holder}
use Rattle.cle_ways.specs.declared.ways.Holder.TheVariants as holder
use Rattle.cle_table.specs.declared.nodes.Nodes.{Nodes}
use Rattle.cle_table.specs.Numbers.{row_at, rows_at, number_of, Puts}

some_is : (m n : ℕ) → Some m ≡ Some n → n ≡ m
some_is m n e = cc

-- ---- a row

pub row_put : (old grown : List (Option ℕ)) (k number : ℕ) → k < length grown → ((j : ℕ) → row_at grown j ≡ row_at old j)
    → Puts (row_at old) (row_at (set grown k (Some number))) k number
row_put old grown k number h same = record {
  there = get_or-set_same grown k (Some number) None h;
  only = λ x n e. ⊎_elim
      (λ (i : x ≡ k). inr (i, some_is number n (sym (get_or-set_same grown k (Some number) None h) ∙ subst (λ y. row_at (set grown k (Some number)) y ≡ Some n) i e)))
      (λ (d : x ≡ k → ⊥). inl (sym (same x) ∙ (sym (get_or-set_other grown k x (Some number) None d) ∙ e)))
      (cases_eq x k);
  kept = λ x n e. ⊎_elim
      (λ (i : x ≡ k). (number, subst (λ y. row_at (set grown k (Some number)) y ≡ Some number) (sym i) (get_or-set_same grown k (Some number) None h)))
      (λ (d : x ≡ k → ⊥). (n, get_or-set_other grown k x (Some number) None d ∙ (same x ∙ e)))
      (cases_eq x k);
}

-- ---- rows

module _ (old grown : List (List (Option ℕ))) (f k number : ℕ) (row : List (Option ℕ)) (h : f < length grown)
    (same : (g : ℕ) → get_or grown g [] ≡ get_or old g []) (p : Puts (row_at (get_or grown f [])) (row_at row) k number) where
  abbrev the_place : ℕ × ℕ
  the_place = (f, k)

  here : get_or (set grown f row) f [] ≡ row
  here = get_or-set_same grown f row [] h

  other : (g : ℕ) → (g ≡ f → ⊥) → get_or (set grown f row) g [] ≡ get_or old g []
  other g d = get_or-set_other grown f g row [] d ∙ same g

  only_rows : (x : ℕ × ℕ) (n : ℕ) → rows_at (set grown f row) x ≡ Some n → (rows_at old x ≡ Some n) ⊎ ((x ≡ the_place) × (n ≡ number))
  only_rows (g, j) n e = ⊎_elim
      (λ (i : g ≡ f). in_row i (p.only j n (sym (ap (λ r. row_at r j) here) ∙ subst (λ y. row_at (get_or (set grown f row) y []) j ≡ Some n) i e)))
      (λ (d : g ≡ f → ⊥). inl (sym (ap (λ r. row_at r j) (other g d)) ∙ e))
      (cases_eq g f)
    where
      place_is : g ≡ f → j ≡ k → ◌≡◌ {A = ℕ × ℕ} (g, j) the_place
      place_is e i = cc

      in_row : g ≡ f → (row_at (get_or grown f []) j ≡ Some n) ⊎ ((j ≡ k) × (n ≡ number)) → (row_at (get_or old g []) j ≡ Some n) ⊎ ((◌≡◌ {A = ℕ × ℕ} (g, j) the_place) × (n ≡ number))
      in_row i (inl q) = inl (subst (λ y. row_at (get_or old y []) j ≡ Some n) (sym i) (sym (ap (λ r. row_at r j) (same f)) ∙ q))
      in_row i (inr q) = inr (place_is i q.0, q.1)

  kept_rows : (x : ℕ × ℕ) (n : ℕ) → rows_at old x ≡ Some n → (m : ℕ) × (rows_at (set grown f row) x ≡ Some m)
  kept_rows (g, j) n e = ⊎_elim
      (λ (i : g ≡ f). in_row i (p.kept j n (ap (λ r. row_at r j) (same f) ∙ subst (λ y. row_at (get_or old y []) j ≡ Some n) i e)))
      (λ (d : g ≡ f → ⊥). (n, ap (λ r. row_at r j) (other g d) ∙ e))
      (cases_eq g f)
    where
      in_row : g ≡ f → (m : ℕ) × (row_at row j ≡ Some m) → (m : ℕ) × (row_at (get_or (set grown f row) g []) j ≡ Some m)
      in_row i q = (q.0, subst (λ y. row_at (get_or (set grown f row) y []) j ≡ Some q.0) (sym i) (ap (λ r. row_at r j) here ∙ q.1))

  pub rows_put : Puts (rows_at old) (rows_at (set grown f row)) (f, k) number
  rows_put = record {
    there = ap (λ r. row_at r k) here ∙ p.there;
    only = only_rows;
    kept = kept_rows;
  }

pub on_ok : (r : Result (Unit {0}) NoMemory) (P Q : Type 0) → (P → Q) → OnOk r P → OnOk r Q
on_ok (Ok x) P Q f h = f h
on_ok (Err e) P Q f h = tt

-- ---- all numbers

module _ (s t : Nodes) (number : ℕ) where
  pub object_put : (k : ℕ) → t.locals ≡ s.locals → t.results ≡ s.results → Puts (row_at s.objects) (row_at t.objects) k number
      → Puts (number_of s) (number_of t) (holder.Object k) number
  object_put k l r p = record { there = p.there; only = only; kept = kept }
    where
      only : (x : Holder) (n : ℕ) → number_of t x ≡ Some n → (number_of s x ≡ Some n) ⊎ ((x ≡ holder.Object k) × (n ≡ number))
      only (holder.Object j) n e = ⊎_elim (λ (q : row_at s.objects j ≡ Some n). inl q) (λ (q : (j ≡ k) × (n ≡ number)). inr (ap holder.Object q.0, q.1)) (p.only j n e)
      only (holder.Local f j) n e = inl (subst (λ rows. rows_at rows (f, j) ≡ Some n) l e)
      only (holder.Result f) n e = inl (subst (λ row. row_at row f ≡ Some n) r e)

      kept : (x : Holder) (n : ℕ) → number_of s x ≡ Some n → (m : ℕ) × (number_of t x ≡ Some m)
      kept (holder.Object j) n e = p.kept j n e
      kept (holder.Local f j) n e = (n, subst (λ rows. rows_at rows (f, j) ≡ Some n) (sym l) e)
      kept (holder.Result f) n e = (n, subst (λ row. row_at row f ≡ Some n) (sym r) e)

  pub local_put : (f k : ℕ) → t.objects ≡ s.objects → t.results ≡ s.results → Puts (rows_at s.locals) (rows_at t.locals) (f, k) number
      → Puts (number_of s) (number_of t) (holder.Local f k) number
  local_put f k o r p = record { there = p.there; only = only; kept = kept }
    where
      only : (x : Holder) (n : ℕ) → number_of t x ≡ Some n → (number_of s x ≡ Some n) ⊎ ((x ≡ holder.Local f k) × (n ≡ number))
      only (holder.Object j) n e = inl (subst (λ row. row_at row j ≡ Some n) o e)
      only (holder.Local g j) n e = ⊎_elim (λ (q : rows_at s.locals (g, j) ≡ Some n). inl q) (λ (q : (◌≡◌ {A = ℕ × ℕ} (g, j) (f, k)) × (n ≡ number)). inr (ap (λ (y : ℕ × ℕ). holder.Local y.0 y.1) q.0, q.1)) (p.only (g, j) n e)
      only (holder.Result g) n e = inl (subst (λ row. row_at row g ≡ Some n) r e)

      kept : (x : Holder) (n : ℕ) → number_of s x ≡ Some n → (m : ℕ) × (number_of t x ≡ Some m)
      kept (holder.Object j) n e = (n, subst (λ row. row_at row j ≡ Some n) (sym o) e)
      kept (holder.Local g j) n e = p.kept (g, j) n e
      kept (holder.Result g) n e = (n, subst (λ row. row_at row g ≡ Some n) (sym r) e)

  pub result_put : (f : ℕ) → t.objects ≡ s.objects → t.locals ≡ s.locals → Puts (row_at s.results) (row_at t.results) f number
      → Puts (number_of s) (number_of t) (holder.Result f) number
  result_put f o l p = record { there = p.there; only = only; kept = kept }
    where
      only : (x : Holder) (n : ℕ) → number_of t x ≡ Some n → (number_of s x ≡ Some n) ⊎ ((x ≡ holder.Result f) × (n ≡ number))
      only (holder.Object j) n e = inl (subst (λ row. row_at row j ≡ Some n) o e)
      only (holder.Local g j) n e = inl (subst (λ rows. rows_at rows (g, j) ≡ Some n) l e)
      only (holder.Result g) n e = ⊎_elim (λ (q : row_at s.results g ≡ Some n). inl q) (λ (q : (g ≡ f) × (n ≡ number)). inr (ap holder.Result q.0, q.1)) (p.only g n e)

      kept : (x : Holder) (n : ℕ) → number_of s x ≡ Some n → (m : ℕ) × (number_of t x ≡ Some m)
      kept (holder.Object j) n e = (n, subst (λ row. row_at row j ≡ Some n) (sym o) e)
      kept (holder.Local g j) n e = (n, subst (λ rows. rows_at rows (g, j) ≡ Some n) (sym l) e)
      kept (holder.Result g) n e = p.kept g n e
