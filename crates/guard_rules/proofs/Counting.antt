-- The rules for policies that speak of a policy's rules.
use Rattle.std.proofs.Common.{◌≡◌, inl, inr, ℕ, List, [], map, not, sym, ap, subst, ◌∙◌, Some, None, Result, Ok, Err}
use Rattle.std.specs.List.{position}
use Rattle.cl_mean.specs.declared.checked.Checked.{Checked}
use Rattle.cl_mean.specs.declared.law.Law.{Law}
use Rattle.cl_mean.specs.declared.law.Rule.{Rule}
use Rattle.cl_typing.specs.Rules.{Lines, Begins}
use Rattle.cl_labelling.specs.Json.{each}
use Rattle.guard_rules.specs.declared.draft.RuleDraft.{RuleDraft}
use Rattle.guard_rules.specs.declared.policy.PolicyStop.{PolicyStop}
use Rattle.guard_rules.specs.declared.policy.PolicyStop.TheVariants as stop
use Rattle.guard_rules.specs.declared.resolve.Resolved.{Resolved}
use Rattle.guard_rules.specs.Answer.{CountAnswer, IsFirst, IsStop, LawAnswer, draft_rules}
use Rattle.guard_rules.specs.Policy.{failing, is_named, is_within, rule_of}
use Rattle.guard_rules.proofs.Failing.{failing_same, none_fails, one_fails}

module _ (checked : Checked) (ds : List RuleDraft) (rs : List Resolved)
    (named : failing (is_named checked) 1 ds ≡ [])
    (within : map (λ r. r.fits) rs ≡ map (is_within checked) ds) where
  fits_are : failing (λ r. r.fits) 1 rs ≡ failing (is_within checked) 1 ds
  fits_are = failing_same (λ (r : Resolved). r.fits) (is_within checked) 1 rs ds within

  -- a rule has a number that isn't in range
  pub one_unfit : (index : ℕ) (e : PolicyStop) → position (λ r. not r.fits) rs ≡ Some index → IsStop 4 index e → IsFirst (draft_rules checked ds) e
  one_unfit index (stop.Rule n at) found is =
      inr (named, inl (is.0, subst (λ (places : Lines). Begins places at) fits_are (one_fails (λ (r : Resolved). r.fits) index at rs found is.1)))
  one_unfit index stop.NoMemory found is = tt

  -- all numbers are in range
  pub all_fit : (r : Result Law PolicyStop) → each (rule_of checked) ds ≡ Some (map (λ r. r.rule) rs) → position (λ r. not r.fits) rs ≡ None → CountAnswer ds rs r → LawAnswer checked ds r
  all_fit (Ok law) made none is = ((named, (sym fits_are ∙ none_fails (λ (r : Resolved). r.fits) 1 rs none, (is.0, tt))), made ∙ ap (λ (rules : List Rule). Some rules) is.1)
  all_fit (Err (stop.Rule n at)) made none is = inr (named, inr (sym fits_are ∙ none_fails (λ (r : Resolved). r.fits) 1 rs none, inl is))
  all_fit (Err stop.NoMemory) made none is = tt
