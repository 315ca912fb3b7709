-- From the tables to what is admitted and what exceeds a bound.
use Rattle.std.proofs.Common.{◌≡◌, ◌↔◌, ◌<◌, ◌≤◌, ◌+◌, ⊎_elim, ℕ, List, [], ◌∷◌, ◌++◌, Bool, true, false, not, IsTrue, length, take, get_or, refl, sym, ap, subst, ◌∙◌, add-one}
use Rattle.std.specs.List.{Contains}
use Rattle.std.proofs.lemmas.List.{take_all}
use Rattle.std.proofs.Math.Seq.{take-suc}
use Rattle.std.proofs.lemmas.List.Elements.{Contains-push_cases}
use Rattle.cl_mean.specs.declared.labels.Mention.{Mention}
use Rattle.cl_levels.specs.Crossings.{Levelled}
use Rattle.cle_ways.specs.declared.ways.Admitted.{Admitted}
use Rattle.cle_ways.specs.declared.ways.Admitted.TheVariants.{Argument, Body}
use Rattle.cle_ways.specs.declared.ways.Holder.{Holder}
use Rattle.cle_ways.specs.declared.ways.Holder.TheVariants.{Local, Result}
use Rattle.cle_ways.specs.declared.ways.Origin.{Origin}
use Rattle.cle_ways.specs.declared.ways.Origin.TheVariants.{Just, AllOf}
use Rattle.cle_ways.specs.Flow.{Admits}
use Rattle.cle_table.specs.Exact.{labels_in, Holds}
use Rattle.cle_flow.specs.declared.bounds.Judge.{Judge}
use Rattle.cle_flow.specs.Judged.{Knows, OneRefused, OriginExceeds, OneExceeds}
use Rattle.cle_flow.proofs.Admitting.{argument_admits, body_admits}

both_ways : {A B C : Type 0} → A ↔ B → B ↔ C → A ↔ C
both_ways f g = ((λ a. g.0 (f.0 a)), (λ c. f.1 (g.1 c)))

pub argument_by : (j : Judge) → Knows j → (f k : ℕ) (m : Mention) (b : Bool) → (IsTrue b ↔ Holds j.admitted (Local f k) m) → IsTrue b ↔ Admits j.program (Argument f k) m
argument_by j knows f k m b h = both_ways (both_ways h (knows.admitted.held (Local f k) m)) (argument_admits j.program f k m)

pub body_by : (j : Judge) → Knows j → (f : ℕ) (m : Mention) (b : Bool) → (IsTrue b ↔ Holds j.admitted (Result f) m) → IsTrue b ↔ Admits j.program (Body f) m
body_by j knows f m b h = both_ways (both_ways h (knows.admitted.held (Result f) m)) (body_admits j.program f m)

-- ---- one origin

pub just_exceeds : (l : Levelled) (a : Admitted) (m : Mention) (b : Bool) → (IsTrue b ↔ Admits l a m) → IsTrue (not b) ↔ OriginExceeds l a (Just m)
just_exceeds l a m true h = ((λ t. absurd (cc)), (λ o. absurd (o.1.1 (subst (λ (k : Mention). Admits l a k) o.1.0 (h.0 refl)))))
just_exceeds l a m false h = ((λ t. (m, (refl, λ c. absurd (no (h.1 c))))), (λ o. refl))
  where
    no : IsTrue false → ⊥
    no t = absurd (cc)

pub all_exceed : (j : Judge) → Knows j → (a : Admitted) (x : Holder) (ms : List Mention) (b : Bool) → ms ≡ labels_in j.carried x
    → (IsTrue b ↔ OneRefused j.program a ms) → IsTrue b ↔ OriginExceeds j.program a (AllOf x)
all_exceed j knows a x ms b e h = both_ways (subst (λ ns. IsTrue b ↔ OneRefused j.program a ns) e h) (
  (λ o. (o.0, (((knows.carried.listed x).exact o.0).0 o.1.0, o.1.1))),
  (λ o. (o.0, (((knows.carried.listed x).exact o.0).1 o.1.0, o.1.1))),
)

-- ---- one origin more

module _ (l : Levelled) (a : Admitted) where
  exceeds_of : (os : List Origin) (o : Origin) → Contains os o → OriginExceeds l a o → OneExceeds l a os
  exceeds_of os o c h = (h.0, ((o, (c, h.1.0)), h.1.1))

  exceeds_one : (os : List Origin) → OneExceeds l a os → (o : Origin) × (Contains os o × OriginExceeds l a o)
  exceeds_one os h = (h.1.0.0, (h.1.0.1.0, (h.0, (h.1.0.1.1, h.1.1))))

  pub none_more : (os : List Origin) (i : ℕ) (d : Origin) (b : Bool) → i < length os → b ≡ false → (IsTrue b ↔ OriginExceeds l a (get_or os i d))
      → (OneExceeds l a (take i os) → ⊥) → OneExceeds l a (take (i + 1) os) → ⊥
  none_more os i d b h t f before one =
      let w = exceeds_one (take (i + 1) os) one in
      let taken : take (i + 1) os ≡ take i os ++ get_or os i d ∷ [] = ap (λ n. take n os) (add-one i) ∙ take-suc os i d h in
      ⊎_elim
      (λ (c : Contains (take i os) w.0). before (exceeds_of (take i os) w.0 c w.1.1))
      (λ (s : get_or os i d ≡ w.0). apart (sym t ∙ f.1 (subst (λ (p : Origin). OriginExceeds l a p) (sym s) w.1.1)))
      (Contains-push_cases (take i os) (get_or os i d) w.0 (subst (λ (ps : List Origin). Contains ps w.0) taken w.1.0))
    where
      apart : false ≡ true → ⊥
      apart q = absurd (cc)

  pub none_found : (os : List Origin) (i : ℕ) → length os ≤ i → (OneExceeds l a (take i os) → ⊥) → IsTrue false ↔ OneExceeds l a os
  none_found os i h before = ((λ u. absurd (cc)), (λ one. absurd (before (subst (λ (ps : List Origin). OneExceeds l a ps) (sym (take_all i os h)) one))))
