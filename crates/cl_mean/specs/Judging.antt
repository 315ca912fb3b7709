-- Laws, and what they do to what crosses between levels.
use Rattle.std.specs.Prelude.{ℕ, ◌-◌, Bool, true, false, not, ◌==◌, ◌&&◌, ℤ, List, [], ◌∷◌, map, Option, Some, None, slice_set, if◌then◌else◌}
use Rattle.std.specs.List.{flat_map, list_all}
use Rattle.cl_mean.specs.declared.labels.Operation.{Operation}
use Rattle.cl_mean.specs.declared.labels.Operation.TheVariants as operation
use Rattle.cl_mean.specs.declared.labels.RedactField.{RedactField}
use Rattle.cl_mean.specs.declared.labels.Entry.{Entry}
use Rattle.cl_mean.specs.declared.law.Asked.{Asked}
use Rattle.cl_mean.specs.declared.law.Patch.{Patch}
use Rattle.cl_mean.specs.declared.law.GuardAct.{GuardAct}
use Rattle.cl_mean.specs.declared.law.GuardAct.TheVariants as act
use Rattle.cl_mean.specs.declared.law.Rule.{Rule}
use Rattle.cl_mean.specs.declared.law.Law.{Law}
use Rattle.cl_mean.specs.declared.law.Ruling.{Ruling}
use Rattle.cl_mean.specs.declared.law.Ruling.TheVariants as ruling
use Rattle.cl_mean.specs.Shape.{Shape, under}

-- ---- one law. Its values are of any type `A`, into which `put` takes a patch's number.

-- a patch past the last place does nothing; a later one at the same place wins
unfoldable pub patched : {A : Type 0} → (ℤ → A) → List Patch → List A → List A
patched put [] vs = vs
patched put (p ∷ ps) vs = patched put ps (slice_set vs p.at (put p.with))

-- what an act does: the ruling, the act from then on, the values
pub record Acted (A : Type 0) : Type 0 where
  pub ruling : Ruling
  pub act : GuardAct
  pub values : List A

unfoldable pub act_on : {A : Type 0} → (ℤ → A) → GuardAct → List A → Acted A
act_on put act.Allow vs = record { ruling = ruling.Pass; act = act.Allow; values = vs }
act_on put act.Block vs = record { ruling = ruling.Block; act = act.Block; values = vs }
act_on put (act.Redact patches) vs = record { ruling = ruling.Pass; act = act.Redact patches; values = patched put patches vs }
act_on put (act.Quota left) vs = if left == 0 then record { ruling = ruling.Block; act = act.Quota left; values = vs } else record { ruling = ruling.Pass; act = act.Quota (left - 1); values = vs }
act_on put (act.Veil left patches) vs = if left == 0 then record { ruling = ruling.Pass; act = act.Veil left patches; values = vs } else record { ruling = ruling.Pass; act = act.Veil (left - 1) patches; values = patched put patches vs }

abbrev pub is_for : Option ℕ → ℕ → Bool
is_for None n = true
is_for (Some m) n = m == n

abbrev pub is_same_way : Bool → Bool → Bool
is_same_way true reply = reply
is_same_way false reply = not reply

unfoldable pub is_matched : Rule → Asked → Bool
is_matched r asked =
    is_for r.from asked.from && (is_for r.to asked.to && (is_for r.function asked.function && is_same_way r.reply asked.reply))

-- what is judged: the ruling, the law from then on, the values
pub record Judged (L A : Type 0) : Type 0 where
  pub ruling : Ruling
  pub law : L
  pub values : List A

abbrev pub acted_first : {A : Type 0} → Rule → List Rule → Acted A → Judged (List Rule) A
acted_first r rs a = record {
  ruling = a.ruling;
  law = record { from = r.from; to = r.to; function = r.function; reply = r.reply; act = a.act } ∷ rs;
  values = a.values;
}

abbrev pub passed_by : {A : Type 0} → Rule → Judged (List Rule) A → Judged (List Rule) A
passed_by r j = record { ruling = j.ruling; law = r ∷ j.law; values = j.values }

-- the first rule that matches decides; where none does the values pass
unfoldable pub rules_judge : {A : Type 0} → (ℤ → A) → List Rule → Asked → List A → Judged (List Rule) A
rules_judge put [] asked vs = record { ruling = ruling.Pass; law = []; values = vs }
rules_judge put (r ∷ rs) asked vs =
    if is_matched r asked then acted_first r rs (act_on put r.act vs) else passed_by r (rules_judge put rs asked vs)

abbrev pub of_law : {A : Type 0} → Judged (List Rule) A → Judged Law A
of_law j = record { ruling = j.ruling; law = record { rules = j.law }; values = j.values }

unfoldable pub judge : {A : Type 0} → (ℤ → A) → Law → Asked → List A → Judged Law A
judge put law asked vs = of_law (rules_judge put law.rules asked vs)

-- a law is idle where each rule lets everything pass as it is, from now on
unfoldable pub is_idle_act : GuardAct → Bool
is_idle_act act.Allow = true
is_idle_act act.Block = false
is_idle_act (act.Redact patches) = false
is_idle_act (act.Quota left) = false
is_idle_act (act.Veil left patches) = left == 0

abbrev pub is_idle_rule : Rule → Bool
is_idle_rule r = is_idle_act r.act

unfoldable pub is_idle : Law → Bool
is_idle law = list_all is_idle_rule law.rules

-- ---- laws in order

-- Each sees what the former left, in the kinds of its places (`fit`). The first block ends it, and a law that isn't asked stays as it was.
abbrev pub passed_on : {A : Type 0} → Law → Judged (List Law) A → Judged (List Law) A
passed_on law j = record { ruling = j.ruling; law = law ∷ j.law; values = j.values }

abbrev pub held_up : {A : Type 0} → Law → List Law → List A → Judged (List Law) A
held_up law laws vs = record { ruling = ruling.Block; law = law ∷ laws; values = vs }

abbrev pub or_next : {A : Type 0} → Judged Law A → List Law → (List A → Judged (List Law) A) → Ruling → Judged (List Law) A
or_next first laws next ruling.Block = held_up first.law laws first.values
or_next first laws next ruling.Pass = passed_on first.law (next first.values)

unfoldable pub laws_judge : {A : Type 0} → (ℤ → A) → (List A → List A) → List Law → Asked → List A → Judged (List Law) A
laws_judge put fit [] asked vs = record { ruling = ruling.Pass; law = []; values = vs }
laws_judge put fit (law ∷ laws) asked vs =
    or_next (judge put law asked vs) laws (λ ws. laws_judge put fit laws asked (fit ws)) (judge put law asked vs).ruling

-- ---- the directive of an entry

abbrev pub patch_with : ℤ → ℕ → Patch
patch_with n at = record { at = at; with = n }

abbrev pub field_patches : Shape → Bool → RedactField → List Patch
field_patches payload reply f = if is_same_way f.reply reply then map (patch_with f.with) (under payload f.path 0) else []

abbrev pub directive_act : Operation → Shape → Bool → List RedactField → GuardAct
directive_act operation.Allow payload reply fields = act.Allow
directive_act operation.Block payload reply fields = act.Block
directive_act operation.Redact payload reply fields = act.Redact (flat_map (field_patches payload reply) fields)

abbrev pub directive_rule : Entry → Shape → Bool → Rule
directive_rule e payload reply = record { from = None; to = None; function = None; reply = reply; act = directive_act e.operation payload reply e.redact }

-- what an entry has done to requests or replies of this payload; it never changes
unfoldable pub directive : Entry → Shape → Bool → Law
directive e payload reply = record { rules = directive_rule e payload reply ∷ [] }

-- the entry of a label for a level
unfoldable pub entry_for : List Entry → ℕ → Option Entry
entry_for [] level = None
entry_for (e ∷ es) level = if e.remote == level then Some e else entry_for es level
