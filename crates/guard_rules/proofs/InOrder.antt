-- Guards in order: what has been asked stands before what is left, with the laws that it has then.
use Rattle.std.proofs.Common.{◌≡◌, ℕ, zero, suc, ◌<◌, ℤ, List, [], ◌∷◌, ◌++◌, map, take, drop, length, slice_index_or, slice_set, refl, sym, ap, ◌∙◌, arith}
use Rattle.cl_mean.specs.declared.law.Asked.{Asked}
use Rattle.cl_mean.specs.declared.law.Law.{Law}
use Rattle.cl_mean.specs.declared.law.Ruling.TheVariants as ruling
use Rattle.cl_mean.specs.Judging.{Judged, judge, laws_judge, or_next, passed_on}

abbrev pub behind : {A : Type 0} → List Law → Judged (List Law) A → Judged (List Law) A
behind done j = record { ruling = j.ruling; law = done ++ j.law; values = j.values }

module _ {A G : Type 0} (law : G → Law) (put : ℤ → A) (fit : List A → List A) (asked : Asked) where
  -- what the guards from a place on come to, behind those that were asked
  abbrev pub from_place : List G → ℕ → List A → Judged (List Law) A
  from_place gs i vs = behind (map law (take i gs)) (laws_judge put fit (map law (drop i gs)) asked vs)

  -- one that blocks ends it
  pub blocks : (gs : List G) (i : ℕ) (d x : G) (vs ws : List A) → i < length gs
      → judge put (law (slice_index_or gs i d)) asked vs ≡ record { ruling = ruling.Block; law = law x; values = ws }
      → from_place gs i vs ≡ record { ruling = ruling.Block; law = map law (slice_set gs i x); values = ws }
  unfolding laws_judge
  blocks [] i d x vs ws within e = absurd (omega arith)
  blocks (g ∷ gs) zero d x vs ws within e = ap (λ (j : Judged Law A). or_next j (map law gs) (λ us. laws_judge put fit (map law gs) asked (fit us)) j.ruling) e
  blocks (g ∷ gs) (suc i) d x vs ws within e = ap (passed_on (law g)) (blocks gs i d x vs ws (omega arith) e)

  -- where one passes, the next one sees what it left
  pub passes : (gs : List G) (i : ℕ) (d x : G) (vs ws us : List A) → i < length gs
      → judge put (law (slice_index_or gs i d)) asked vs ≡ record { ruling = ruling.Pass; law = law x; values = ws } → us ≡ fit ws
      → from_place (slice_set gs i x) (suc i) us ≡ from_place gs i vs
  unfolding laws_judge
  passes [] i d x vs ws us within e f = absurd (omega arith)
  passes (g ∷ gs) zero d x vs ws us within e f =
      ap (λ (us : List A). passed_on (law x) (laws_judge put fit (map law gs) asked us)) f
      ∙ sym (ap (λ (j : Judged Law A). or_next j (map law gs) (λ us. laws_judge put fit (map law gs) asked (fit us)) j.ruling) e)
  passes (g ∷ gs) (suc i) d x vs ws us within e f = ap (passed_on (law g)) (passes gs i d x vs ws us (omega arith) e f)

  -- behind the last one nothing blocks
  pub ends : (gs : List G) (i : ℕ) (vs : List A) → i ≡ length gs → from_place gs i vs ≡ record { ruling = ruling.Pass; law = map law gs; values = vs }
  unfolding laws_judge
  ends [] i vs e = rw e refl
  ends (g ∷ gs) zero vs e = absurd (omega arith)
  ends (g ∷ gs) (suc i) vs e = ap (passed_on (law g)) (ends gs i vs (omega arith))
