-- What the steps of reading a policy answer.
use Rattle.std.specs.Prelude.{◌≡◌, ℕ, ◌+◌, ◌<◌, ℤ, Bool, true, false, List, [], ◌∷◌, ◌++◌, length, map, Option, Some, None, Result, Ok, Err}
use Rattle.std.specs.Global.{Vec}
use Rattle.std.specs.List.{flat_map, list_all}
use Rattle.std.specs.Option.{is_some}
use Rattle.serde_json.specs.Data.{Data}
use Rattle.serde_json.specs.View.{view}
use Rattle.serde_json.specs.declared.value.Value.{Value}
use Rattle.cl_tree.specs.Arithmetic.{fits}
use Rattle.cl_mean.specs.declared.checked.Checked.{Checked}
use Rattle.cl_mean.specs.declared.law.Law.{Law}
use Rattle.cl_mean.specs.declared.law.Patch.{Patch}
use Rattle.cl_mean.specs.Judging.{patch_with}
use Rattle.cl_mean.specs.Shape.{Shape}
use Rattle.cl_typing.specs.Rules as checks
use Rattle.cl_typing.specs.Rules.{Lines, AllHold, FirstFails, Begins, rule}
use Rattle.cl_labelling.specs.Json.{each}
use Rattle.guard_rules.specs.declared.draft.ActDraft.{ActDraft}
use Rattle.guard_rules.specs.declared.draft.Field.{Field}
use Rattle.guard_rules.specs.declared.draft.RuleDraft.{RuleDraft}
use Rattle.guard_places.specs.declared.places.Place.{Place}
use Rattle.guard_rules.specs.declared.policy.PolicyStop.{PolicyStop}
use Rattle.guard_rules.specs.declared.policy.PolicyStop.TheVariants as stop
use Rattle.guard_rules.specs.declared.redact.Redacted.{Redacted}
use Rattle.guard_rules.specs.declared.resolve.Acting.{Acting}
use Rattle.guard_rules.specs.declared.resolve.Resolved.{Resolved}
use Rattle.guard_rules.specs.Policy.{act_fits, act_of, failing, field_fits, fields_of, is_named, is_path, is_within, misshapen, not_read, patches_of, policy_rules, rule_of, too_many, IsPolicy}
use Rattle.guard_rules.specs.Text.{drafts_of, rule_in, rules_in, value_of}

-- ---- fields

-- a field with these integers under its path: its patches are added
abbrev pub PlacesAnswer : List Place → ℤ → List Patch → List Patch → Option Bool → Type 0
PlacesAnswer ps n old new None = length ps ≡ 0
PlacesAnswer ps n old new (Some fit) =
    (0 < length ps) × (new ≡ old ++ map (λ p. patch_with n p.at) ps) × (fit ≡ list_all (λ p. fits p.kind n) ps)

-- a field whose path names integers: its patches are added
abbrev pub FieldAnswer : Shape → Field → List Patch → List Patch → Option Bool → Type 0
FieldAnswer s f old new None = is_path s f ≡ false
FieldAnswer s f old new (Some fit) = (is_path s f ≡ true) × (new ≡ old ++ patches_of s f) × (fit ≡ field_fits s f)

abbrev pub FieldsAnswer : Shape → List Field → Option Redacted → Type 0
FieldsAnswer s fs None = list_all (is_path s) fs ≡ false
FieldsAnswer s fs (Some r) = (list_all (is_path s) fs ≡ true) × (r.patches ≡ flat_map (patches_of s) fs) × (r.fits ≡ list_all (field_fits s) fs)

-- ---- rules

abbrev pub ActAnswer : Shape → ActDraft → Option Acting → Type 0
ActAnswer s d None = list_all (is_path s) (fields_of d) ≡ false
ActAnswer s d (Some a) = (list_all (is_path s) (fields_of d) ≡ true) × (a.act ≡ act_of s d) × (a.fits ≡ act_fits s d)

abbrev pub DraftAnswer : Checked → RuleDraft → Option Resolved → Type 0
DraftAnswer checked d None = is_named checked d ≡ false
DraftAnswer checked d (Some r) = (is_named checked d ≡ true) × (rule_of checked d ≡ Some r.rule) × (r.fits ≡ is_within checked d)

-- ---- places

-- a rule for policies that fails, by its first place
abbrev pub IsPlace : ℕ → Lines → PolicyStop → Type 0
IsPlace number places (stop.Rule n at) = (n ≡ number) × Begins places at
IsPlace number places stop.NoMemory = Unit {0}

-- the stop at the rule of an index
abbrev pub IsStop : ℕ → ℕ → PolicyStop → Type 0
IsStop number index (stop.Rule n at) = (n ≡ number) × (at ≡ index + 1)
IsStop number index stop.NoMemory = Unit {0}

abbrev pub is_rule : Data → Bool
is_rule d = is_some (rule_in d)

-- ---- lists of rules

abbrev pub EachAnswer : List Data → Result (Vec RuleDraft) PolicyStop → Type 0
EachAnswer ds (Ok drafts) = (failing is_rule 1 ds ≡ []) × (each rule_in ds ≡ Some drafts.items)
EachAnswer ds (Err e) = IsPlace 2 (failing is_rule 1 ds) e

abbrev pub ResolvedAnswer : Checked → List RuleDraft → Result (Vec Resolved) PolicyStop → Type 0
ResolvedAnswer checked ds (Ok rs) =
    (failing (is_named checked) 1 ds ≡ []) × (each (rule_of checked) ds ≡ Some (map (λ r. r.rule) rs.items)) × (map (λ r. r.fits) rs.items ≡ map (is_within checked) ds)
ResolvedAnswer checked ds (Err e) = IsPlace 3 (failing (is_named checked) 1 ds) e

-- ---- the whole

abbrev pub ValueAnswer : Option Data → Result Value PolicyStop → Type 0
ValueAnswer read (Ok v) = read ≡ Some (view v)
ValueAnswer read (Err e) = IsPlace 1 (not_read read) e

abbrev pub ShapeAnswer : Data → Result (Vec RuleDraft) PolicyStop → Type 0
ShapeAnswer d (Ok drafts) = (misshapen (Some d) ≡ []) × (rules_in d ≡ Some drafts.items)
ShapeAnswer d (Err e) = IsPlace 2 (misshapen (Some d)) e

-- a stop names the first of these that fails, at its first place
abbrev pub IsFirst : List checks.Rule → PolicyStop → Type 0
IsFirst rs (stop.Rule number at) = FirstFails rs number at
IsFirst rs stop.NoMemory = Unit {0}

-- the rules for policies that speak of the text alone, and those that speak of its rules
abbrev pub text_rules : List ℕ → List checks.Rule
text_rules text = rule 1 (not_read (value_of text)) ∷ rule 2 (misshapen (value_of text)) ∷ []

abbrev pub draft_rules : Checked → List RuleDraft → List checks.Rule
draft_rules checked ds = rule 3 (failing (is_named checked) 1 ds) ∷ rule 4 (failing (is_within checked) 1 ds) ∷ rule 5 (too_many ds) ∷ []

abbrev pub TextAnswer : List ℕ → Result (Vec RuleDraft) PolicyStop → Type 0
TextAnswer text (Ok drafts) = AllHold (text_rules text) × (drafts_of text ≡ drafts.items)
TextAnswer text (Err e) = IsFirst (text_rules text) e

abbrev pub CountAnswer : List RuleDraft → List Resolved → Result Law PolicyStop → Type 0
CountAnswer ds rs (Ok law) = (too_many ds ≡ []) × (map (λ r. r.rule) rs ≡ law.rules)
CountAnswer ds rs (Err e) = IsPlace 5 (too_many ds) e

abbrev pub LawAnswer : Checked → List RuleDraft → Result Law PolicyStop → Type 0
LawAnswer checked ds (Ok law) = AllHold (draft_rules checked ds) × (each (rule_of checked) ds ≡ Some law.rules)
LawAnswer checked ds (Err e) = IsFirst (draft_rules checked ds) e

abbrev pub PolicyAnswer : Checked → List ℕ → Result Law PolicyStop → Type 0
PolicyAnswer checked text (Ok law) = IsPolicy checked text law
PolicyAnswer checked text (Err e) = IsFirst (policy_rules checked text) e

abbrev pub HasLaw : Checked → List ℕ → Type 0
HasLaw checked text = (law : Law) × IsPolicy checked text law

abbrev pub HasFailure : Checked → List ℕ → Type 0
HasFailure checked text = (number : ℕ) × (place : ℕ) × FirstFails (policy_rules checked text) number place
