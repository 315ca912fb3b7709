-- The first rule that matches decides what a law does.
use Rattle.std.proofs.Common.{◌≡◌, ℕ, suc, ◌+◌, arith, ℤ, List, [], ◌∷◌, refl, sym, subst, ap, Bool, true, false, if◌then◌else◌, Option, Some, None, IfSome, ◌<◌, length, ◌∙◌, slice_get, slice_index_or, slice_set}
use Rattle.std.specs.List.{position, position_from}
use Rattle.std.proofs.lemmas.Iterator.Adapters.{position_from-zero}
use Rattle.std.proofs.lemmas.Option.{none-some, same_Some, slice_get_read}
use Rattle.cl_mean.specs.declared.law.Asked.{Asked}
use Rattle.cl_mean.specs.declared.law.Rule.{Rule}
use Rattle.cl_mean.specs.declared.law.Ruling.TheVariants as ruling
use Rattle.cl_mean.specs.Judging.{Judged, Acted, act_on, is_matched, acted_first, passed_by, rules_judge}

module _ {A : Type 0} (put : ℤ → A) (asked : Asked) (vs : List A) where
  abbrev pub passed : List Rule → Judged (List Rule) A
  passed rs = record { ruling = ruling.Pass; law = rs; values = vs }

  -- a rule at a place has acted
  abbrev pub decided : Rule → List Rule → ℕ → Judged (List Rule) A
  decided r rs i = record {
    ruling = (act_on put r.act vs).ruling;
    law = slice_set rs i (record { from = r.from; to = r.to; function = r.function; reply = r.reply; act = (act_on put r.act vs).act });
    values = (act_on put r.act vs).values;
  }

  -- the first rule that matches, counted from a number on
  abbrev first_from : ℕ → List Rule → Option ℕ
  first_from k rs = position_from (λ r. is_matched r asked) k rs

  pub first_is : (rs : List Rule) → position (λ r. is_matched r asked) rs ≡ first_from 0 rs
  first_is rs = position_from-zero (λ r. is_matched r asked) rs

  none_step : (r : Rule) (rs : List Rule) (k : ℕ) (b : Bool) → (if b then Some k else first_from (k + 1) rs) ≡ None → (first_from (k + 1) rs ≡ None → rules_judge put rs asked vs ≡ passed rs)
      → (if b then acted_first r rs (act_on put r.act vs) else passed_by r (rules_judge put rs asked vs)) ≡ passed (r ∷ rs)
  none_step r rs k true e h = absurd (none-some k (sym e))
  none_step r rs k false e h = ap (passed_by r) (h e)

  -- where no rule matches, all passes
  pub none_matches : (k : ℕ) (rs : List Rule) → first_from k rs ≡ None → rules_judge put rs asked vs ≡ passed rs
  unfolding rules_judge
  none_matches k [] e = refl
  none_matches k (r ∷ rs) e = none_step r rs k (is_matched r asked) e (none_matches (k + 1) rs)

  abbrev Decides : ℕ → ℕ → List Rule → Judged (List Rule) A → Type 0
  Decides k at rs j = (i : ℕ) × (at ≡ k + i) × ((r : Rule) → slice_get rs i ≡ Some r → j ≡ decided r rs i)

  one_step : (r : Rule) (rs : List Rule) (k at : ℕ) (b : Bool) → (if b then Some k else first_from (k + 1) rs) ≡ Some at → (first_from (k + 1) rs ≡ Some at → Decides (k + 1) at rs (rules_judge put rs asked vs))
      → Decides k at (r ∷ rs) (if b then acted_first r rs (act_on put r.act vs) else passed_by r (rules_judge put rs asked vs))
  one_step r rs k at true e h = let s : k ≡ at = same_Some k at e in (0, omega (arith, s), λ x g. subst (λ (z : Rule). acted_first r rs (act_on put r.act vs) ≡ decided z (r ∷ rs) 0) (same_Some r x g) refl)
  one_step r rs k at false e h = let d : Decides (k + 1) at rs (rules_judge put rs asked vs) = h e in let s : at ≡ k + 1 + d.0 = d.1 in (suc d.0, omega (arith, s), λ x g. ap (passed_by r) (d.2 x g))

  place_decides : (k at : ℕ) (rs : List Rule) → first_from k rs ≡ Some at → Decides k at rs (rules_judge put rs asked vs)
  unfolding rules_judge
  place_decides k at [] e = absurd (none-some at e)
  place_decides k at (r ∷ rs) e = one_step r rs k at (is_matched r asked) e (place_decides (k + 1) at rs)

  -- otherwise the first rule that does acts, and all others stay
  pub one_decides : (at : ℕ) (rs : List Rule) (r : Rule) → first_from 0 rs ≡ Some at → slice_get rs at ≡ Some r → rules_judge put rs asked vs ≡ decided r rs at
  one_decides at rs r e g =
      let d : Decides 0 at rs (rules_judge put rs asked vs) = place_decides 0 at rs e in
      let s : at ≡ 0 + d.0 = d.1 in
      let i : d.0 ≡ at = omega (arith, s) in
      subst (λ (z : ℕ). rules_judge put rs asked vs ≡ decided r rs z) i (d.2 r (subst (λ (z : ℕ). slice_get rs z ≡ Some r) (sym i) g))

  -- ---- by what a search for that rule found

  pub found_none : (found : Option ℕ) (seen rs : List Rule) → found ≡ position (λ z. is_matched z asked) seen → seen ≡ rs → found ≡ None → rules_judge put rs asked vs ≡ passed rs
  found_none found seen rs e same is = none_matches 0 rs (sym (first_is rs) ∙ subst (λ (z : List Rule). position (λ y. is_matched y asked) z ≡ None) same (sym e ∙ is))

  abbrev pub acted : Rule → List Rule → ℕ → Acted A → Judged (List Rule) A
  acted r rs at o = record {
    ruling = o.ruling;
    law = slice_set rs at (record { from = r.from; to = r.to; function = r.function; reply = r.reply; act = o.act });
    values = o.values;
  }

  pub found_one : (found : Option ℕ) (seen rs now : List Rule) (at : ℕ) (r : Rule) (o : Acted A) → found ≡ position (λ z. is_matched z asked) seen → seen ≡ rs → rs ≡ now → found ≡ Some at → IfSome found (λ i. i < length seen) → r ≡ slice_index_or rs at r → act_on put r.act vs ≡ o
      → rules_judge put now asked vs ≡ acted r rs at o
  found_one found seen rs now at r o e same view is within here did =
      let inside : at < length seen = subst (λ (z : Option ℕ). IfSome z (λ i. i < length seen)) is within in
      let lt : at < length rs = subst (λ (z : List Rule). at < length z) same inside in
      ap (λ (z : List Rule). rules_judge put z asked vs) (sym view)
      ∙ (one_decides at rs r (sym (first_is rs) ∙ subst (λ (z : List Rule). position (λ y. is_matched y asked) z ≡ Some at) same (sym e ∙ is)) (slice_get_read rs (length rs) at r refl lt here) ∙ ap (acted r rs at) did)
