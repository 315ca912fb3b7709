-- What the answer for a policy says.
use Rattle.std.proofs.Common.{◌≡◌, ◌⊎◌, inl, inr, ℕ, suc, List, [], ◌∷◌, ◌++◌, refl, sym, ap, ◌∙◌, Bool, true, false, Option, Some, None, option_map, option_and_then, Result, Ok, Err, IfOk, IfErr, MatchResult}
use Rattle.std.proofs.lemmas.Option.{same_Some}
use Rattle.cl_mean.specs.declared.checked.Checked.{Checked}
use Rattle.cl_mean.specs.declared.law.Law.{Law}
use Rattle.cl_mean.specs.declared.law.Rule.{Rule}
use Rattle.cl_typing.specs.Rules as checks
use Rattle.cl_typing.specs.Rules.{Lines, unless, AllHold, FirstFails}
use Rattle.cl_labelling.specs.Json.{each}
use Rattle.guard_rules.specs.declared.draft.RuleDraft.{RuleDraft}
use Rattle.guard_rules.specs.declared.names.Target.{Target}
use Rattle.guard_rules.specs.declared.policy.PolicyStop.{PolicyStop}
use Rattle.guard_rules.specs.declared.policy.PolicyStop.TheVariants as stop
use Rattle.guard_rules.specs.Answer.{IsFirst, PolicyAnswer, HasLaw, HasFailure}
use Rattle.guard_rules.specs.Policy.{failing, is_named, names_paths, policy_rules, rule_for, rule_of, target_of, IsPolicy, PolicyFails}
use Rattle.guard_rules.specs.Text.{drafts_of}

-- Rules that all hold have no first that fails.
not_both : (rs : List checks.Rule) (number line : ℕ) → AllHold rs → FirstFails rs number line → ⊥
not_both [] number line h f = f
not_both (r ∷ rs) number line h (inl f) = let a : r.places ≡ [] = h.0 in let b : r.places ≡ line ∷ f.1.0 = f.1.1 in cc
not_both (r ∷ rs) number line h (inr f) = not_both rs number line h.1 f.1

-- One rule is the first to fail, at one place.
one_first : (rs : List checks.Rule) (m k n l : ℕ) → FirstFails rs m k → FirstFails rs n l → (m ≡ n) × (k ≡ l)
one_first [] m k n l f g = absurd f
one_first (r ∷ rs) m k n l (inl f) (inl g) =
    let a : m ≡ r.number = f.0 in let b : n ≡ r.number = g.0 in let c : r.places ≡ k ∷ f.1.0 = f.1.1 in
    let d : r.places ≡ l ∷ g.1.0 = g.1.1 in let h : m ≡ n = cc in let i : k ≡ l = cc in (h, i)
one_first (r ∷ rs) m k n l (inl f) (inr g) =
    let a : r.places ≡ [] = g.0 in let b : r.places ≡ k ∷ f.1.0 = f.1.1 in absurd (cc)
one_first (r ∷ rs) m k n l (inr f) (inl g) =
    let a : r.places ≡ [] = f.0 in let b : r.places ≡ l ∷ g.1.0 = g.1.1 in absurd (cc)
one_first (r ∷ rs) m k n l (inr f) (inr g) = one_first rs m k n l f.1 g.1

same_stop : (m k n l : ℕ) → (m ≡ n) × (k ≡ l) → stop.Rule m k ≡ stop.Rule n l
same_stop m k n l h = let a : m ≡ n = h.0 in let b : k ≡ l = h.1 in cc

-- All rules hold, or one is the first to fail.
hold_or_fail : (rs : List checks.Rule) → AllHold rs ⊎ ((number : ℕ) × (line : ℕ) × FirstFails rs number line)
hold_or_fail [] = inl tt
hold_or_fail (r ∷ rs) = next_case r rs r.places refl (hold_or_fail rs)
  where
    next_case : (r : checks.Rule) (rs : List checks.Rule) (places : Lines) → r.places ≡ places
        → AllHold rs ⊎ ((number : ℕ) × (line : ℕ) × FirstFails rs number line)
        → AllHold (r ∷ rs) ⊎ ((number : ℕ) × (line : ℕ) × FirstFails (r ∷ rs) number line)
    next_case r rs [] e (inl h) = inl (e, h)
    next_case r rs [] e (inr f) = inr (f.0, f.1, inr (e, f.2))
    next_case r rs (line ∷ rest) e h = inr (r.number, line, inl (refl, (rest, e)))

-- ---- laws

abbrev law_with : List Rule → Law
law_with rules = record { rules = rules }

-- Rules that all name what they have to are rules of a law.
module _ (checked : Checked) where
  passes_then : (b : Bool) (k : ℕ) (rest : Lines) → unless b k ++ rest ≡ [] → (b ≡ true) × (rest ≡ [])
  passes_then true k rest e = (refl, e)
  passes_then false k rest e = let a : k ∷ rest ≡ [] = e in absurd (cc)

  one_rule : (d : RuleDraft) (t : Option Target) → target_of checked d ≡ t → names_paths checked d t ≡ true → (r : Rule) × (rule_of checked d ≡ Some r)
  unfolding rule_of
  one_rule d None is e = let a : false ≡ true = e in absurd (cc)
  one_rule d (Some t) is e = (rule_for checked d t, ap (option_map (rule_for checked d)) is)

  pub all_rules : (k : ℕ) (ds : List RuleDraft) → failing (is_named checked) k ds ≡ [] → (rs : List Rule) × (each (rule_of checked) ds ≡ Some rs)
  unfolding failing each is_named
  all_rules k [] e = ([], refl)
  all_rules k (d ∷ ds) e =
      let both : (is_named checked d ≡ true) × (failing (is_named checked) (suc k) ds ≡ []) = passes_then (is_named checked d) k (failing (is_named checked) (suc k) ds) e in
      let first : (r : Rule) × (rule_of checked d ≡ Some r) = one_rule d (target_of checked d) refl both.0 in
      let rest : (rs : List Rule) × (each (rule_of checked) ds ≡ Some rs) = all_rules (suc k) ds both.1 in
      (first.0 ∷ rest.0, ap (option_and_then (λ r. option_map (λ rs. r ∷ rs) (each (rule_of checked) ds))) first.1 ∙ ap (option_map (λ rs. first.0 ∷ rs)) rest.1)

module _ (checked : Checked) (text : List ℕ) where
  pub answer_found : (r : Result Law PolicyStop) → PolicyAnswer checked text r → IfOk r (λ law. IsPolicy checked text law)
  answer_found (Ok x) h = h
  answer_found (Err e) h = tt

  -- a policy has one law
  pub one_law : (x y : Law) → IsPolicy checked text x → IsPolicy checked text y → x ≡ y
  one_law x y a b = ap law_with (same_Some x.rules y.rules (sym a.rules ∙ b.rules))

  pub answer_only : (r : Result Law PolicyStop) → PolicyAnswer checked text r → (law : Law) → IsPolicy checked text law
      → MatchResult r (λ x. x ≡ law) (λ e. e ≡ stop.NoMemory)
  answer_only (Ok x) h law all = one_law x law h all
  answer_only (Err (stop.Rule number line)) h law all = absurd (not_both (policy_rules checked text) number line all.holds h)
  answer_only (Err stop.NoMemory) h law all = refl

  pub answer_fails : (r : Result Law PolicyStop) → PolicyAnswer checked text r → IfErr r (λ e. IsFirst (policy_rules checked text) e)
  answer_fails (Ok x) h = tt
  answer_fails (Err e) h = h

  pub answer_rule : (r : Result Law PolicyStop) → PolicyAnswer checked text r → (number line : ℕ)
      → PolicyFails checked text number line
      → MatchResult r (λ x. ⊥) (λ e. (e ≡ stop.Rule number line) ⊎ (e ≡ stop.NoMemory))
  answer_rule (Ok x) h number line f = not_both (policy_rules checked text) number line h.holds f
  answer_rule (Err (stop.Rule n l)) h number line f = inl (same_stop n l number line
      (one_first (policy_rules checked text) n l number line h f))
  answer_rule (Err stop.NoMemory) h number line f = inr refl

  pub has_answer : HasLaw checked text ⊎ HasFailure checked text
  has_answer = elim (hold_or_fail (policy_rules checked text)) [
    | inl h ↦ let rs : (rs : List Rule) × (each (rule_of checked) (drafts_of text) ≡ Some rs) = all_rules checked 1 (drafts_of text) h.1.1.0 in
        inl (law_with rs.0, record { holds = h; rules = rs.1 })
    | inr f ↦ inr f
  ]

  pub one_side : HasLaw checked text → HasFailure checked text → ⊥
  one_side t f = not_both (policy_rules checked text) f.0 f.1 t.1.holds f.2

  pub one_failure : (rule place r p : ℕ) → PolicyFails checked text rule place → PolicyFails checked text r p
      → (rule ≡ r) × (place ≡ p)
  one_failure rule place r p f g = one_first (policy_rules checked text) rule place r p f g
