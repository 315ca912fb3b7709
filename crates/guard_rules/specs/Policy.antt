-- A policy, read for a checked source: what its rules have to name, and the law that it is.
use Rattle.std.specs.Prelude.{◌≡◌, ℕ, suc, Bool, true, false, ◌&&◌, ◌==◌, nat_le, List, [], ◌∷◌, ◌++◌, map, length, Option, Some, None, option_map, option_and_then, bytes_eq, slice_index_or}
use Rattle.std.specs.List.{find, flat_map, list_all, position}
use Rattle.std.specs.Option.{is_some}
use Rattle.serde_json.specs.Data.{Data}
use Rattle.cl_tree.specs.declared.kinds.IntKind.TheVariants.{I32}
use Rattle.cl_tree.specs.Arithmetic.{fits}
use Rattle.cl_tree.specs.Words.{Word}
use Rattle.cl_mean.specs.declared.checked.Checked.{Checked}
use Rattle.cl_mean.specs.declared.checked.GedlRow.{GedlRow}
use Rattle.cl_mean.specs.declared.law.GuardAct.{GuardAct}
use Rattle.cl_mean.specs.declared.law.GuardAct.TheVariants as act
use Rattle.cl_mean.specs.declared.law.Law.{Law}
use Rattle.cl_mean.specs.declared.law.Patch.{Patch}
use Rattle.cl_mean.specs.declared.law.Rule.{Rule}
use Rattle.cl_mean.specs.Judging.{patch_with}
use Rattle.cl_mean.specs.Shape.{Shape, nothing, kinds_of, under}
use Rattle.cl_mean.specs.Source.{function_at, source_of}
use Rattle.rpc_codec.specs.Leaves.{payload_by}
use Rattle.cl_typing.specs.Rules as checks
use Rattle.cl_typing.specs.Rules.{Lines, unless, rule, AllHold, FirstFails}
use Rattle.cl_labelling.specs.Json.{each}
use Rattle.guard_rules.specs.declared.draft.Field.{Field}
use Rattle.guard_rules.specs.declared.draft.ActDraft.{ActDraft}
use Rattle.guard_rules.specs.declared.draft.ActDraft.TheVariants as draft
use Rattle.guard_rules.specs.declared.draft.RuleDraft.{RuleDraft}
use Rattle.guard_rules.specs.declared.names.Target.{Target}
use Rattle.guard_rules.specs.Text.{value_of, rule_in, rules_under, drafts_of}

-- ---- what a rule names

-- the number of a level
abbrev pub level_named : Checked → Word → Option ℕ
level_named checked name = position (λ level. bytes_eq level name) checked.labels.levels

-- the call of a function by one level at another
abbrev pub is_row : ℕ → ℕ → Word → GedlRow → Bool
is_row from to name row = (row.from == from) && ((row.to == to) && bytes_eq row.name name)

abbrev pub row_named : Checked → ℕ → ℕ → Word → Option GedlRow
row_named checked from to name = find (is_row from to name) checked.gedl.rows

-- the number of the function; none for all functions
abbrev pub function_of : Checked → ℕ → ℕ → Option Word → Option (Option ℕ)
function_of checked from to None = Some None
function_of checked from to (Some name) = option_map (λ row. Some row.function) (row_named checked from to name)

-- the two levels and the function of a rule, if it names two levels and a row
unfoldable pub target_of : Checked → RuleDraft → Option Target
target_of checked d =
    option_and_then (λ from. option_and_then (λ to. option_map (λ function.
    record { from = from; to = to; function = function })
    (function_of checked from to d.function))
    (level_named checked d.to))
    (level_named checked d.from)

-- the request of a function, or its reply; a rule for all functions has none of its own
abbrev pub payload : Checked → Option ℕ → Bool → Shape
payload checked None reply = nothing
payload checked (Some k) reply = payload_by (function_at (source_of checked).functions k) reply

abbrev pub any_there : List ℕ → Bool
any_there [] = false
any_there (p ∷ ps) = true

-- a path names integers of the payload
abbrev pub is_path : Shape → Field → Bool
is_path s f = any_there (under s f.path 0)

abbrev pub fields_of : ActDraft → List Field
fields_of (draft.Redact fields) = fields
fields_of _ = []

-- Whether a rule names two levels, a row unless it is for all functions, and paths of the row's payload.
abbrev pub names_paths : Checked → RuleDraft → Option Target → Bool
names_paths checked d None = false
names_paths checked d (Some t) = list_all (is_path (payload checked t.function d.reply)) (fields_of d.act)

unfoldable pub is_named : Checked → RuleDraft → Bool
is_named checked d = names_paths checked d (target_of checked d)

-- ---- the numbers of a rule

-- the number is in the type of each integer under its path
unfoldable pub field_fits : Shape → Field → Bool
field_fits s f = list_all (λ at. fits (slice_index_or (kinds_of s) at I32) f.with) (under s f.path 0)

abbrev pub act_fits : Shape → ActDraft → Bool
act_fits s (draft.Quota left) = nat_le left 1000000000
act_fits s (draft.Redact fields) = list_all (field_fits s) fields
act_fits s _ = true

abbrev pub target_function : Option Target → Option ℕ
target_function None = None
target_function (Some t) = t.function

unfoldable pub is_within : Checked → RuleDraft → Bool
is_within checked d = act_fits (payload checked (target_function (target_of checked d)) d.reply) d.act

-- ---- the law of a policy

-- a patch for each integer under the path
abbrev pub patches_of : Shape → Field → List Patch
patches_of s f = map (patch_with f.with) (under s f.path 0)

abbrev pub act_of : Shape → ActDraft → GuardAct
act_of s draft.Allow = act.Allow
act_of s draft.Block = act.Block
act_of s (draft.Quota left) = act.Quota left
act_of s (draft.Redact fields) = act.Redact (flat_map (patches_of s) fields)

abbrev pub rule_for : Checked → RuleDraft → Target → Rule
rule_for checked d t =
    record { from = Some t.from; to = Some t.to; function = t.function; reply = d.reply; act = act_of (payload checked t.function d.reply) d.act }

-- the rule that a rule of a policy is, with the numbers of what it names
unfoldable pub rule_of : Checked → RuleDraft → Option Rule
rule_of checked d = option_map (rule_for checked d) (target_of checked d)

-- ---- the rules for policies, in their order

-- the places of those that don't pass, counted from a number on
unfoldable pub failing : {A : Type 0} → (A → Bool) → ℕ → List A → Lines
failing passes k [] = []
failing passes k (x ∷ xs) = unless (passes x) k ++ failing passes (suc k) xs

-- too long, or no JSON
abbrev pub not_read : Option Data → Lines
not_read value = unless (is_some value) 0

abbrev pub misshapen_rules : Option (List Data) → Lines
misshapen_rules None = 0 ∷ []
misshapen_rules (Some ds) = failing (λ d. is_some (rule_in d)) 1 ds

abbrev pub misshapen : Option Data → Lines
misshapen None = []
misshapen (Some d) = misshapen_rules (rules_under d)

abbrev pub too_many : List RuleDraft → Lines
too_many ds = unless (nat_le (length ds) 1024) 0

abbrev pub policy_rules : Checked → List ℕ → List checks.Rule
policy_rules checked text =
    rule 1 (not_read (value_of text)) ∷ rule 2 (misshapen (value_of text)) ∷ rule 3 (failing (is_named checked) 1 (drafts_of text))
    ∷ rule 4 (failing (is_within checked) 1 (drafts_of text)) ∷ rule 5 (too_many (drafts_of text)) ∷ []

-- A law is that of the policy that a text is: all rules for policies hold, and it has a rule for each rule of the policy, in order.
pub record IsPolicy (checked : Checked) (text : List ℕ) (law : Law) : Type 0 where
  pub holds : AllHold (policy_rules checked text)
  pub rules : each (rule_of checked) (drafts_of text) ≡ Some law.rules

abbrev pub PolicyFails : Checked → List ℕ → ℕ → ℕ → Type 0
PolicyFails checked text number place = FirstFails (policy_rules checked text) number place
