use Rattle.std.proofs.Common.{◌≡◌, ◌++◌, ◌+◌, map, drop, length, option_map}
use Rattle.cl_labelling.specs.Json.{each}
use Rattle.guard_rules.specs.Policy.{failing, is_named, is_within, rule_of}
use Rattle.guard_rules.proofs.policy.resolve_all.Given as goal

abbrev pub invariant-loop-draft : goal.invariant-loop-draft
invariant-loop-draft l = record {
  source : l.paths ≡ l.checked;
  found : option_map (λ ys. map (λ r. r.rule) l.rules.items ++ ys) (each (rule_of l.checked) (drop l.draft-index l.drafts)) ≡ each (rule_of l.checked) l.drafts;
  failed : failing (is_named l.checked) (l.draft-index + 1) (drop l.draft-index l.drafts) ≡ failing (is_named l.checked) 1 l.drafts;
  within : map (λ r. r.fits) l.rules.items ++ map (is_within l.checked) (drop l.draft-index l.drafts) ≡ map (is_within l.checked) l.drafts;
  count : length l.rules.items ≡ l.draft-index;
}
