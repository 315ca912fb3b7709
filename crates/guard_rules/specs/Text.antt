-- What the text of a policy says: the shape that its JSON value has to have.
use Rattle.std.specs.Prelude.{ℕ, ℤ, pos, Bool, true, false, nat_le, List, [], length, Option, Some, None, option_map, option_and_then, bytes_eq, codes, if◌then◌else◌}
use Rattle.std.specs.Ordering.{int_eq}
use Rattle.serde_json.specs.Data.{Data}
use Rattle.serde_json.specs.Find.{get, as_array, as_number, as_u64}
use Rattle.cl_tree.specs.Words.{Word}
use Rattle.cl_labelling.specs.Json.{json_of, listed, each, text_under, integer_under}
use Rattle.cl_labelling.specs.Text.{path_of, reply_named}
use Rattle.guard_rules.specs.declared.draft.Field.{Field}
use Rattle.guard_rules.specs.declared.draft.ActDraft.{ActDraft}
use Rattle.guard_rules.specs.declared.draft.ActDraft.TheVariants as act
use Rattle.guard_rules.specs.declared.draft.RuleDraft.{RuleDraft}

-- The value that a policy's bytes are read as; more than 1,048,576 of them have no reading.
unfoldable pub value_of : List ℕ → Option Data
value_of text = if nat_le (length text) 1048576 then json_of text else None

-- a whole number of at least 0 under a key: one that is read as an unsigned integer of 64 bits
unfoldable pub natural_under : Word → Data → Option ℕ
natural_under key d = option_and_then as_u64 (option_and_then as_number (get key d))

-- ---- acts

-- a path whose integers are replaced, and the number that they become
unfoldable pub field_in : Data → Option Field
field_in d =
    option_and_then (λ path. option_map (λ with. record { path = path_of path; with = with })
    (integer_under (codes "with") d)) (text_under (codes "field") d)

unfoldable pub fields_under : Data → Option (List Field)
fields_under d = option_and_then (λ items. each field_in (listed items)) (option_and_then as_array (get (codes "fields") d))

abbrev pub quota_in : Data → Option ActDraft
quota_in d = option_map (λ left. act.Quota left) (natural_under (codes "left") d)

-- A rule for all functions redacts nothing, since paths are those of one function.
abbrev pub redact_in : Bool → Data → Option ActDraft
redact_in true d = None
redact_in false d = option_map (λ fields. act.Redact fields) (fields_under d)

-- an act by its name
unfoldable pub act_named : Bool → Data → Word → Option ActDraft
act_named for_all d name =
    if bytes_eq name (codes "allow") then Some act.Allow
    else (if bytes_eq name (codes "block") then Some act.Block
    else (if bytes_eq name (codes "quota") then quota_in d
    else (if bytes_eq name (codes "redact") then redact_in for_all d else None)))

abbrev pub act_under : Bool → Data → Option ActDraft
act_under for_all d = option_and_then (act_named for_all d) (text_under (codes "do") d)

-- ---- rules

abbrev pub is_star : Word → Bool
is_star name = bytes_eq name (codes "*")

-- `*` names no function: the rule is for all
abbrev pub function_named : Word → Option Word
function_named name = if is_star name then None else Some name

-- the texts that say what a rule is for
pub record Texts : Type 0 where
  pub from : Word
  pub to : Word
  pub function : Word
  pub reply : Bool

abbrev pub texts : Word → Word → Word → Bool → Texts
texts from to function reply = record { from = from; to = to; function = function; reply = reply }

abbrev pub texts_in : Data → Option Texts
texts_in d =
    option_and_then (λ from. option_and_then (λ to. option_and_then (λ function. option_map (λ reply. texts from to function reply)
    (option_and_then reply_named (text_under (codes "on") d)))
    (text_under (codes "function") d))
    (text_under (codes "to") d))
    (text_under (codes "from") d)

abbrev pub with_act : Texts → ActDraft → RuleDraft
with_act t act = record { from = t.from; to = t.to; function = function_named t.function; reply = t.reply; act = act }

unfoldable pub rule_in : Data → Option RuleDraft
rule_in d = option_and_then (λ texts. option_map (with_act texts) (act_under (is_star texts.function) d)) (texts_in d)

-- ---- the whole

abbrev pub is_one : Option ℤ → Bool
is_one None = false
is_one (Some n) = int_eq n (pos 1)

-- the rules of a policy, each as its value: an object of format 1 has a list of them
unfoldable pub rules_under : Data → Option (List Data)
rules_under d =
    if is_one (integer_under (codes "format") d)
    then option_map listed (option_and_then as_array (get (codes "rules") d))
    else None

-- its rules as their texts say them, where each has the shape of a rule
abbrev pub rules_in : Data → Option (List RuleDraft)
rules_in d = option_and_then (each rule_in) (rules_under d)

abbrev pub all_of : {A : Type 0} → Option (List A) → List A
all_of None = []
all_of (Some xs) = xs

-- the rules of the policy that a text is
unfoldable pub drafts_of : List ℕ → List RuleDraft
drafts_of text = all_of (option_and_then rules_in (value_of text))
