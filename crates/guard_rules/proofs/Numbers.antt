-- Laws judge values of any type in the same way.
use Rattle.std.proofs.Common.{◌≡◌, ℤ, List, [], ◌∷◌, map, refl, sym, ap, ◌∙◌, Bool, true, false, ◌-◌, ◌==◌, if◌then◌else◌, slice_set}
use Rattle.std.proofs.lemmas.List.{map-set}
use Rattle.cl_tree.specs.declared.kinds.IntKind.{IntKind}
use Rattle.cl_tree.specs.Arithmetic.{value}
use Rattle.cl_mean.specs.declared.law.Asked.{Asked}
use Rattle.cl_mean.specs.declared.law.Patch.{Patch}
use Rattle.cl_mean.specs.declared.law.GuardAct.{GuardAct}
use Rattle.cl_mean.specs.declared.law.GuardAct.TheVariants as act
use Rattle.cl_mean.specs.declared.law.Rule.{Rule}
use Rattle.cl_mean.specs.declared.law.Law.{Law}
use Rattle.cl_mean.specs.declared.law.Ruling.{Ruling}
use Rattle.cl_mean.specs.declared.law.Ruling.TheVariants as ruling
use Rattle.cl_mean.specs.Judging.{Acted, Judged, patched, act_on, acted_first, passed_by, is_matched, rules_judge, judge, of_law, laws_judge, or_next, passed_on}
use Rattle.cl_mean.specs.Guarded.{fitted as fitted_values}
use Rattle.cl_mean.specs.Value.{Labelled}
use Rattle.guard_rules.specs.Guards.{fitted, numbers}

module _ {A B : Type 0} (h : A → B) (put : ℤ → A) (other : ℤ → B) (same : (n : ℤ) → h (put n) ≡ other n) where
  abbrev acted : Acted A → Acted B
  acted a = record { ruling = a.ruling; act = a.act; values = map h a.values }

  abbrev pub judged : {L : Type 0} → Judged L A → Judged L B
  judged j = record { ruling = j.ruling; law = j.law; values = map h j.values }

  patches : (ps : List Patch) (vs : List A) → patched other ps (map h vs) ≡ map h (patched put ps vs)
  unfolding patched
  patches [] vs = refl
  patches (p ∷ ps) vs =
      ap (patched other ps) (ap (slice_set (map h vs) p.at) (sym (same p.with)) ∙ sym (map-set h vs p.at (put p.with)))
      ∙ patches ps (slice_set vs p.at (put p.with))

  acts : (a : GuardAct) (vs : List A) → act_on other a (map h vs) ≡ acted (act_on put a vs)
  unfolding act_on
  acts act.Allow vs = refl
  acts act.Block vs = refl
  acts (act.Redact ps) vs = ap (λ (ws : List B). record { ruling = ruling.Pass; act = act.Redact ps; values = ws }) (patches ps vs)
  acts (act.Quota left) vs = by (left == 0)
    where
      by : (b : Bool) → (if b then record { ruling = ruling.Block; act = act.Quota left; values = map h vs } else record { ruling = ruling.Pass; act = act.Quota (left - 1); values = map h vs })
          ≡ acted (if b then record { ruling = ruling.Block; act = act.Quota left; values = vs } else record { ruling = ruling.Pass; act = act.Quota (left - 1); values = vs })
      by true = refl
      by false = refl
  acts (act.Veil left ps) vs = by (left == 0)
    where
      by : (b : Bool) → (if b then record { ruling = ruling.Pass; act = act.Veil left ps; values = map h vs } else record { ruling = ruling.Pass; act = act.Veil (left - 1) ps; values = patched other ps (map h vs) })
          ≡ acted (if b then record { ruling = ruling.Pass; act = act.Veil left ps; values = vs } else record { ruling = ruling.Pass; act = act.Veil (left - 1) ps; values = patched put ps vs })
      by true = refl
      by false = ap (λ (ws : List B). record { ruling = ruling.Pass; act = act.Veil (left - 1) ps; values = ws }) (patches ps vs)

  rules_same : (rs : List Rule) (asked : Asked) (vs : List A) → rules_judge other rs asked (map h vs) ≡ judged (rules_judge put rs asked vs)
  unfolding rules_judge
  rules_same [] asked vs = refl
  rules_same (r ∷ rs) asked vs = by (rules_same rs asked vs) (is_matched r asked)
    where
      by : rules_judge other rs asked (map h vs) ≡ judged (rules_judge put rs asked vs)
          → (b : Bool) → (if b then acted_first r rs (act_on other r.act (map h vs)) else passed_by r (rules_judge other rs asked (map h vs)))
          ≡ judged (if b then acted_first r rs (act_on put r.act vs) else passed_by r (rules_judge put rs asked vs))
      by rest true = ap (acted_first r rs) (acts r.act vs)
      by rest false = ap (passed_by r) rest

  judges : (law : Law) (asked : Asked) (vs : List A) → judge other law asked (map h vs) ≡ judged (judge put law asked vs)
  unfolding judge
  judges law asked vs = ap of_law (rules_same law.rules asked vs)

  module _ (fit : List A → List A) (fits : List B → List B) (fit_same : (vs : List A) → fits (map h vs) ≡ map h (fit vs)) where
    pub laws_same : (laws : List Law) (asked : Asked) (vs : List A) → laws_judge other fits laws asked (map h vs) ≡ judged (laws_judge put fit laws asked vs)
    unfolding laws_judge
    laws_same [] asked vs = refl
    laws_same (law ∷ laws) asked vs =
        ap (λ (j : Judged Law B). or_next j laws (λ ws. laws_judge other fits laws asked (fits ws)) j.ruling) (judges law asked vs)
        ∙ by_ruling (λ ws. laws_same laws asked ws) (judge put law asked vs) (judge put law asked vs).ruling
      where
        by_ruling : ((ws : List A) → laws_judge other fits laws asked (map h ws) ≡ judged (laws_judge put fit laws asked ws))
            → (j : Judged Law A) (r : Ruling) → or_next (judged j) laws (λ ws. laws_judge other fits laws asked (fits ws)) r ≡ judged (or_next j laws (λ ws. laws_judge put fit laws asked (fit ws)) r)
        by_ruling rest j ruling.Block = refl
        by_ruling rest j ruling.Pass = ap (passed_on j.law) (ap (laws_judge other fits laws asked) (fit_same j.values) ∙ rest (fit j.values))

pub fitted_numbers : (kinds : List IntKind) (xs : List Labelled) → fitted kinds (numbers xs) ≡ numbers (fitted_values kinds xs)
fitted_numbers [] xs = refl
fitted_numbers (k ∷ ks) [] = refl
fitted_numbers (k ∷ ks) (x ∷ xs) = ap (λ (ns : List ℤ). value k x.number ∷ ns) (fitted_numbers ks xs)
