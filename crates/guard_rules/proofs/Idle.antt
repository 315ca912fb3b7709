-- Idle laws let everything pass.
use Rattle.std.proofs.Common.{◌≡◌, ℤ, List, [], ◌∷◌, refl, ap, Bool, true, false, ◌&&◌, if◌then◌else◌}
use Rattle.std.specs.List.{list_all}
use Rattle.std.proofs.lemmas.Bool.{false≢true}
use Rattle.cl_mean.specs.declared.law.Asked.{Asked}
use Rattle.cl_mean.specs.declared.law.GuardAct.{GuardAct}
use Rattle.cl_mean.specs.declared.law.GuardAct.TheVariants as act
use Rattle.cl_mean.specs.declared.law.Rule.{Rule}
use Rattle.cl_mean.specs.declared.law.Law.{Law}
use Rattle.cl_mean.specs.declared.law.Ruling.TheVariants as ruling
use Rattle.cl_mean.specs.Judging.{Acted, act_on, acted_first, passed_by, is_matched, rules_judge, judge, is_idle, is_idle_act, is_idle_rule, of_law}

both : (x y : Bool) → (x && y) ≡ true → (x ≡ true) × (y ≡ true)
both true y e = (refl, e)
both false y e = absurd (false≢true e)

module _ {A : Type 0} (put : ℤ → A) where
  abbrev passes : GuardAct → List A → Acted A
  passes a vs = record { ruling = ruling.Pass; act = a; values = vs }

  act_passes : (a : GuardAct) (vs : List A) → is_idle_act a ≡ true → act_on put a vs ≡ passes a vs
  unfolding act_on is_idle_act
  act_passes act.Allow vs e = refl
  act_passes act.Block vs e = absurd (false≢true e)
  act_passes (act.Redact patches) vs e = absurd (false≢true e)
  act_passes (act.Quota left) vs e = absurd (false≢true e)
  act_passes (act.Veil left patches) vs e = rw e refl

  rules_pass : (rs : List Rule) (asked : Asked) (vs : List A) → list_all is_idle_rule rs ≡ true → rules_judge put rs asked vs ≡ record { ruling = ruling.Pass; law = rs; values = vs }
  unfolding rules_judge
  rules_pass [] asked vs e = refl
  rules_pass (r ∷ rs) asked vs e =
      let idle : (is_idle_act r.act ≡ true) × (list_all is_idle_rule rs ≡ true) = both (is_idle_act r.act) (list_all is_idle_rule rs) e in
      by (is_matched r asked) (act_passes r.act vs idle.0) (rules_pass rs asked vs idle.1)
    where
      by : (m : Bool) → act_on put r.act vs ≡ passes r.act vs → rules_judge put rs asked vs ≡ record { ruling = ruling.Pass; law = rs; values = vs }
          → (if m then acted_first r rs (act_on put r.act vs) else passed_by r (rules_judge put rs asked vs)) ≡ record { ruling = ruling.Pass; law = r ∷ rs; values = vs }
      by true acts rest = ap (acted_first r rs) acts
      by false acts rest = ap (passed_by r) rest

  pub idle_passes : (law : Law) (asked : Asked) (vs : List A) → is_idle law ≡ true → judge put law asked vs ≡ record { ruling = ruling.Pass; law = law; values = vs }
  unfolding judge is_idle
  idle_passes law asked vs e = ap of_law (rules_pass law.rules asked vs e)
