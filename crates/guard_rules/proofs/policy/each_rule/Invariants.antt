use Rattle.std.proofs.Common.{◌≡◌, ◌++◌, ◌+◌, map, drop, length, option_map}
use Rattle.serde_json.specs.View.{view}
use Rattle.cl_labelling.specs.Json.{each}
use Rattle.guard_rules.specs.Answer.{is_rule}
use Rattle.guard_rules.specs.Policy.{failing}
use Rattle.guard_rules.specs.Text.{rule_in}
use Rattle.guard_rules.proofs.policy.each_rule.Given as goal

abbrev pub invariant-loop-part : goal.invariant-loop-part
invariant-loop-part l = record {
  found : option_map (λ ys. l.drafts.items ++ ys) (each rule_in (map view (drop l.part-index l.parts))) ≡ each rule_in (map view l.parts);
  failed : failing is_rule (l.part-index + 1) (map view (drop l.part-index l.parts)) ≡ failing is_rule 1 (map view l.parts);
  count : length l.drafts.items ≡ l.part-index;
}
