use Rattle.std.proofs.Common.{◌≡◌, ◌<◌, ◌≤◌, ◌+◌, ◌++◌, ◌∷◌, [], ℕ, length, map, Some, None, sym, ap, ◌∙◌, arith, length-append}
use Rattle.std.specs.Option.{is_some}
use Rattle.serde_json.specs.View.{view}
use Rattle.guard_rules.specs.Answer.{is_rule}
use Rattle.guard_rules.specs.Policy.{failing}
use Rattle.guard_rules.specs.Text.{rule_in}
use Rattle.guard_rules.proofs.Each.{step_one, all_done}
use Rattle.guard_rules.proofs.Failing.{fail_seen, pass_seen, none_seen, stops_at}
use Rattle.guard_rules.proofs.policy.each_rule.Goals as goal

pub returns-in-None : goal.returns-in-None
returns-in-None c =
    let h : c.loop-part.part-index < length c.args.parts.now = omega arith in
    let e : rule_in (view c.part-item.result) ≡ None = sym c.in_ok-draft.ensures ∙ c.in-None.is in
    let count : c.len.result ≡ c.loop-part.part-index = cc in
    stops_at 2 c.len.result (failing is_rule 1 (map view c.args.parts.now)) c.stop_at.result c.stop_at.ensures
    (λ (at : ℕ) (is : at ≡ c.len.result + 1). fail_seen is_rule view c.args.parts.now c.part-item.result c.loop-part.part-index at (failing is_rule 1 (map view c.args.parts.now)) h c.part-item.is (ap is_some e) (is ∙ ap (λ (k : ℕ). k + 1) count) c.loop-part.invariant.failed)

pub loop-part-preserved : goal.loop-part-preserved
loop-part-preserved c =
    let h : c.loop-part.part-index < length c.args.parts.now = omega arith in
    let e : rule_in (view c.part-item.result) ≡ Some c.in-Some.draft = sym c.in_ok-draft.ensures ∙ c.in-Some.is in
    let behind : c.push.new.self.items ≡ c.loop-part.drafts.items ++ c.in-Some.draft ∷ [] = c.in_ok-push-in-Some.ensures.items in
    record {
      found = step_one rule_in view c.args.parts.now c.part-item.result c.loop-part.part-index c.loop-part.drafts.items c.push.new.self.items c.in-Some.draft _ h c.part-item.is e behind c.loop-part.invariant.found;
      failed = pass_seen is_rule view c.args.parts.now c.part-item.result c.loop-part.part-index _ h c.part-item.is (ap is_some e) c.loop-part.invariant.failed;
      count = ap length behind ∙ length-append c.loop-part.drafts.items (c.in-Some.draft ∷ []) ∙ ap (λ (k : ℕ). k + 1) c.loop-part.invariant.count;
    }

pub returns : goal.returns
returns c =
    let h : length c.args.parts.now ≤ c.loop-part.part-index = omega arith in
    (none_seen is_rule view c.args.parts.now c.loop-part.part-index _ h c.loop-part.invariant.failed, sym (all_done rule_in view c.args.parts.now c.loop-part.part-index c.loop-part.drafts.items _ h c.loop-part.invariant.found))
