use Rattle.std.proofs.Common.{◌≡◌, ◌<◌, ◌≤◌, ◌+◌, ◌++◌, ◌∷◌, [], ℕ, Option, Some, false, length, sym, ap, subst, ◌∙◌, arith, length-append}
use Rattle.cl_mean.specs.declared.checked.Checked.{Checked}
use Rattle.guard_rules.specs.declared.resolve.Resolved.{Resolved}
use Rattle.guard_rules.specs.Answer.{DraftAnswer}
use Rattle.guard_rules.specs.Policy.{failing, is_named, is_within, rule_of}
use Rattle.guard_rules.proofs.Each.{all_by, all_map, step_by, step_map}
use Rattle.guard_rules.proofs.Failing.{fail_here, none_left, pass_more, stops_at}
use Rattle.guard_rules.proofs.policy.resolve_all.Goals as goal

pub returns-in-None : goal.returns-in-None
returns-in-None c =
    let h : c.loop-draft.draft-index < length c.args.drafts.now = omega arith in
    let named : is_named c.args.checked.now c.draft-item.result ≡ false = subst (λ (o : Option Resolved). DraftAnswer c.args.checked.now c.draft-item.result o) c.in-None.is (subst (λ (k : Checked). DraftAnswer k c.draft-item.result c.in_ok-rule.field-0) c.loop-draft.invariant.source c.in_ok-rule.ensures.answer) in
    let count : c.len.result ≡ c.loop-draft.draft-index = cc in
    stops_at 3 c.len.result (failing (is_named c.args.checked.now) 1 c.args.drafts.now) c.stop_at.result c.stop_at.ensures
    (λ (at : ℕ) (e : at ≡ c.len.result + 1). fail_here (is_named c.args.checked.now) c.args.drafts.now c.draft-item.result c.loop-draft.draft-index at (failing (is_named c.args.checked.now) 1 c.args.drafts.now) h c.draft-item.is named (e ∙ ap (λ (k : ℕ). k + 1) count) c.loop-draft.invariant.failed)

pub loop-draft-preserved : goal.loop-draft-preserved
loop-draft-preserved c =
    let h : c.loop-draft.draft-index < length c.args.drafts.now = omega arith in
    let got : DraftAnswer c.args.checked.now c.draft-item.result (Some c.in-Some.rule) = subst (λ (o : Option Resolved). DraftAnswer c.args.checked.now c.draft-item.result o) c.in-Some.is (subst (λ (k : Checked). DraftAnswer k c.draft-item.result c.in_ok-rule.field-0) c.loop-draft.invariant.source c.in_ok-rule.ensures.answer) in
    let behind : c.push.new.self.items ≡ c.loop-draft.rules.items ++ c.in-Some.rule ∷ [] = c.in_ok-push-in-Some.ensures.items in
    record {
      source = c.in_ok-rule.ensures.kept ∙ c.loop-draft.invariant.source;
      found = step_by (λ r. r.rule) c.args.drafts.now c.draft-item.result c.loop-draft.draft-index c.loop-draft.rules.items c.push.new.self.items c.in-Some.rule h c.draft-item.is behind (rule_of c.args.checked.now) _ got.1 c.loop-draft.invariant.found;
      failed = pass_more (is_named c.args.checked.now) c.args.drafts.now c.draft-item.result c.loop-draft.draft-index _ h c.draft-item.is got.0 c.loop-draft.invariant.failed;
      within = step_map (λ r. r.fits) c.args.drafts.now c.draft-item.result c.loop-draft.draft-index c.loop-draft.rules.items c.push.new.self.items c.in-Some.rule h c.draft-item.is behind (is_within c.args.checked.now) _ got.2 c.loop-draft.invariant.within;
      count = ap length behind ∙ length-append c.loop-draft.rules.items (c.in-Some.rule ∷ []) ∙ ap (λ (k : ℕ). k + 1) c.loop-draft.invariant.count;
    }

pub returns : goal.returns
returns c =
    let h : length c.args.drafts.now ≤ c.loop-draft.draft-index = omega arith in (
      none_left (is_named c.args.checked.now) c.args.drafts.now c.loop-draft.draft-index _ h c.loop-draft.invariant.failed,
      sym (all_by (λ r. r.rule) (rule_of c.args.checked.now) c.args.drafts.now c.loop-draft.draft-index c.loop-draft.rules.items _ h c.loop-draft.invariant.found),
      all_map (λ r. r.fits) (is_within c.args.checked.now) c.args.drafts.now c.loop-draft.draft-index c.loop-draft.rules.items _ h c.loop-draft.invariant.within,
    )
