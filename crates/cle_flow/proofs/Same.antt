-- What is carried makes one flow.
use Rattle.std.proofs.Common.{◌≡◌, ◌↔◌, ◌<◌, ⊎_elim, ℕ, List, [], ◌∷◌, length, get_or, refl, sym, ap, subst, ◌∙◌, arith}
use Rattle.std.specs.List.{Contains}
use Rattle.std.proofs.lemmas.List.{ext_get_or}
use Rattle.cl_mean.specs.declared.labels.Mention.{Mention}
use Rattle.cl_mean.specs.declared.labels.Mention.TheVariants.{Label, Level}
use Rattle.cl_mean.specs.declared.checked.Carried.{Carried}
use Rattle.cl_mean.specs.declared.checked.CarriedLocals.{CarriedLocals}
use Rattle.cl_mean.specs.declared.checked.Flow.{Flow}
use Rattle.cle_ways.specs.declared.ways.Holder.{Holder}
use Rattle.cle_ways.specs.declared.ways.Holder.TheVariants.{Object, Local, Result}
use Rattle.cle_ways.specs.declared.ways.Note.{Note}
use Rattle.cle_ways.specs.Flow.{Before, Sorted, IsCarried, AreCarried, AreFlows, none_carried, no_locals, locals_at}
use Rattle.cle_table.proofs.Graphs.{none, heads, later, first}

-- ---- sorted lists

not_both : (a b : Mention) → Before a b → Before b a → ⊥
not_both (Label a) (Label b) h k = omega (arith, h, k)
not_both (Label a) (Level b) h k = k
not_both (Level a) (Label b) h k = h
not_both (Level a) (Level b) h k = omega (arith, h, k)

module _ (x y : Mention) (xs ys : List Mention) (s : Sorted (x ∷ xs)) (t : Sorted (y ∷ ys)) (f : (m : Mention) → Contains (x ∷ xs) m ↔ Contains (y ∷ ys) m) where
  before : (z : Mention) (zs : List Mention) → Sorted (z ∷ zs) → (m : Mention) → Contains zs m → Before z m
  unfolding Sorted
  before z zs u m c = u.0 m c

  heads_same : x ≡ y
  heads_same = ⊎_elim
      (λ (e : y ≡ x). sym e)
      (λ (r : Contains ys x). ⊎_elim (λ (e : x ≡ y). e) (λ (q : Contains xs y). absurd (not_both x y (before x xs s y q) (before y ys t x r)))
      (heads x y xs ((f y).1 (first y ys))))
      (heads y x ys ((f x).0 (first x xs)))

  tail_within : (z w : Mention) (zs ws : List Mention) → Sorted (z ∷ zs) → z ≡ w → (m : Mention) → Contains zs m → Contains (w ∷ ws) m → Contains ws m
  tail_within z w zs ws u e m c d = ⊎_elim
      (λ (i : w ≡ m). let b : Before z z = subst (λ (n : Mention). Before z n) (sym (e ∙ i)) (before z zs u m c) in absurd (not_both z z b b))
      (λ (r : Contains ws m). r)
      (heads w m ws d)

  tails_same : (m : Mention) → Contains xs m ↔ Contains ys m
  tails_same m = (
    (λ c. tail_within x y xs ys s heads_same m c ((f m).0 (later x m xs c))),
    (λ c. tail_within y x ys xs t (sym heads_same) m c ((f m).1 (later y m ys c))),
  )

tail_sorted : (x : Mention) (xs : List Mention) → Sorted (x ∷ xs) → Sorted xs
unfolding Sorted
tail_sorted x xs s = s.1

same_sorted : (xs ys : List Mention) → Sorted xs → Sorted ys → ((m : Mention) → Contains xs m ↔ Contains ys m) → xs ≡ ys
same_sorted [] [] s t f = refl
same_sorted [] (y ∷ ys) s t f = absurd (none y ((f y).1 (first y ys)))
same_sorted (x ∷ xs) [] s t f = absurd (none x ((f x).0 (first x xs)))
same_sorted (x ∷ xs) (y ∷ ys) s t f =
    ap (λ (z : Mention). z ∷ xs) (heads_same x y xs ys s t f)
    ∙ ap (λ (zs : List Mention). y ∷ zs) (same_sorted xs ys (tail_sorted x xs s) (tail_sorted y ys t) (tails_same x y xs ys s t f))

-- ---- what holders carry

module _ (notes : List Note) where
  same_labels : (x : Holder) (a b : List Mention) → IsCarried notes x a → IsCarried notes x b → a ≡ b
  same_labels x a b h k = same_sorted a b h.sorted k.sorted (λ m. ((λ c. (k.exact m).1 ((h.exact m).0 c)), (λ c. (h.exact m).1 ((k.exact m).0 c))))

  same_carried : (holder : ℕ → Holder) (a b : List Carried) → length a ≡ length b → AreCarried notes holder a → AreCarried notes holder b → a ≡ b
  same_carried holder a b e h k = ext_get_or none_carried a b e (λ i q. ap (λ (ms : List Mention). record { labels = ms })
      (same_labels (holder i) (get_or a i none_carried).labels (get_or b i none_carried).labels (h i q) (k i (subst (λ (n : ℕ). i < n) e q))))

  module _ (count : ℕ) (counts : List ℕ) (x y : Flow) (f : AreFlows notes count counts x) (g : AreFlows notes count counts y) where
    same_locals : x.locals ≡ y.locals
    same_locals = ext_get_or no_locals x.locals y.locals (f.functions ∙ sym g.functions) (λ i q.
        let h : i < length counts = subst (λ (n : ℕ). i < n) f.functions q in
        ap (λ (cs : List Carried). record { locals = cs })
        (same_carried (Local i) (locals_at x.locals i) (locals_at y.locals i) (f.locals i h ∙ sym (g.locals i h)) (f.of_locals i h) (g.of_locals i h)))

    pub same_flow : x ≡ y
    same_flow =
        ap (λ (os : List Carried). record { objects = os; locals = x.locals; results = x.results })
        (same_carried Object x.objects y.objects (f.objects ∙ sym g.objects) f.of_objects g.of_objects)
        ∙ ap (λ (ls : List CarriedLocals). record { objects = y.objects; locals = ls; results = x.results }) same_locals
        ∙ ap (λ (rs : List Carried). record { objects = y.objects; locals = y.locals; results = rs })
        (same_carried Result x.results y.results (f.results ∙ sym g.results) f.of_results g.of_results)
