use Rattle.std.proofs.Common.{◌≡◌, List, not, Some, None, sym, ap, ◌∙◌}
use Rattle.std.specs.List.{position}
use Rattle.guard_rules.specs.declared.resolve.Resolved.{Resolved}
use Rattle.guard_rules.proofs.Counting.{all_fit, one_unfit}
use Rattle.guard_rules.proofs.policy.law_of.Goals as goal

pub returns-in-Some : goal.returns-in-Some
returns-in-Some c =
    let found : position (λ r. not r.fits) c.in_ok-resolved.resolved.items ≡ Some c.in-Some.index = sym (c.first_unfit.ensures ∙ ap (λ (rs : List Resolved). position (λ r. not r.fits) rs) c.deref.ensures.value) ∙ c.in-Some.is in
    one_unfit c.args.checked.now c.args.drafts.now c.in_ok-resolved.resolved.items c.in_ok-resolved.ensures.0 c.in_ok-resolved.ensures.2 c.in-Some.index c.stop_at.result found c.stop_at.ensures

pub returns-in-None : goal.returns-in-None
returns-in-None c =
    let none : position (λ r. not r.fits) c.in_ok-resolved.resolved.items ≡ None = sym (c.first_unfit.ensures ∙ ap (λ (rs : List Resolved). position (λ r. not r.fits) rs) c.deref.ensures.value) ∙ c.in-None.is in
    all_fit c.args.checked.now c.args.drafts.now c.in_ok-resolved.resolved.items c.in_ok-resolved.ensures.0 c.in_ok-resolved.ensures.2 c.counted.result c.in_ok-resolved.ensures.1 none c.counted.ensures
