-- What the text of a definition says: the shape that its JSON value has to have.
use Rattle.std.specs.Prelude.{ℕ, Bool, true, false, not, ◌&&◌, ◌==◌, nat_eq, nat_le, nat_lt, List, [], ◌∷◌, map, length, Option, Some, None, option_map, option_and_then, bytes_eq, codes, if◌then◌else◌}
use Rattle.std.specs.List.{list_all, slice_split}
use Rattle.std.specs.Cmp.Lexicographic.{pointwise}
use Rattle.std.specs.Char.{is_ascii_alphabetic, is_ascii_alphanumeric}
use Prim.Native.Char.{code}
use Rattle.serde_json.specs.Data.{Data, boolean}
use Rattle.serde_json.specs.Find.{get, as_array}
use Rattle.cl_tree.specs.Words.{Word}
use Rattle.cl_mean.specs.declared.labels.Direction.{Direction}
use Rattle.cl_mean.specs.declared.labels.Direction.TheVariants.{Egress, Ingress, Bidirectional}
use Rattle.cl_mean.specs.declared.labels.Operation.{Operation}
use Rattle.cl_mean.specs.declared.labels.Operation.TheVariants.{Allow, Block, Redact}
use Rattle.cl_mean.specs.declared.labels.RedactField.{RedactField}
use Rattle.cl_labelling.specs.declared.draft.Names.{Names}
use Rattle.cl_labelling.specs.declared.draft.TaintsDraft.{TaintsDraft}
use Rattle.cl_labelling.specs.declared.draft.EntryDraft.{EntryDraft}
use Rattle.cl_labelling.specs.declared.draft.Draft.{Draft}
use Rattle.cl_labelling.specs.Json.{json_of, listed, each, texts, text_under, integer_under}

-- ---- names of levels

-- 1 to 32 letters and digits, a letter first
unfoldable pub is_level_name : Word → Bool
is_level_name [] = false
is_level_name (b ∷ bs) = is_ascii_alphabetic b && list_all is_ascii_alphanumeric bs && nat_lt (length bs) 32

abbrev pub level_name : Word → Option Word
level_name name = if is_level_name name then Some name else None

-- ---- an entry

unfoldable pub direction_named : Word → Option Direction
direction_named name =
    if bytes_eq name (codes "egress") then Some Egress
    else (if bytes_eq name (codes "ingress") then Some Ingress
    else (if bytes_eq name (codes "bidirectional") then Some Bidirectional else None))

unfoldable pub operation_named : Word → Option Operation
operation_named name =
    if bytes_eq name (codes "allow") then Some Allow
    else (if bytes_eq name (codes "block") then Some Block
    else (if bytes_eq name (codes "redact") then Some Redact else None))

-- whether a field is one of a reply
unfoldable pub reply_named : Word → Option Bool
reply_named name =
    if bytes_eq name (codes "request") then Some false
    else (if bytes_eq name (codes "reply") then Some true else None)

-- A path is cut at each `.`.
unfoldable pub path_of : Word → List Word
path_of = slice_split (λ b. b == code ".")

-- a field whose numbers are replaced
unfoldable pub redact_field : Data → Option RedactField
redact_field d =
    option_and_then (λ reply. option_and_then (λ path. option_map (λ with.
    record { reply = reply; path = path_of path; with = with })
    (integer_under (codes "with") d)) (text_under (codes "field") d)) (option_and_then reply_named (text_under (codes "on") d))

abbrev pub redact_fields : Data → Option (List RedactField)
redact_fields d = option_and_then (λ items. each redact_field (listed items)) (as_array d)

-- The fields of a directive. They are wanted where it redacts, which a function's label alone may do; beside another
-- operation the key isn't looked at.
unfoldable pub fields_of : Bool → Operation → Data → Option (List RedactField)
fields_of on_function Redact directive =
    if on_function then option_and_then redact_fields (get (codes "redact") directive) else None
fields_of on_function _ directive = Some []

-- one way only: absent or `false`
abbrev pub is_false : Option Data → Bool
is_false None = true
is_false (Some (boolean b)) = not b
is_false (Some _) = false

unfoldable pub entry_of : Bool → Data → Option EntryDraft
entry_of on_function d =
    option_and_then (λ directive. option_and_then (λ remote. option_and_then (λ direction. option_and_then (λ operation.
    if is_false (get (codes "oneway") directive)
    then option_map (λ redact. record { remote = remote; direction = direction; operation = operation; redact = redact })
    (fields_of on_function operation directive)
    else None)
    (option_and_then operation_named (text_under (codes "operation") directive)))
    (option_and_then direction_named (text_under (codes "direction") d)))
    (text_under (codes "remotelevel") d))
    (get (codes "guarddirective") d)

-- ---- the taint lists of an entry

abbrev pub names_in : Data → Option Names
names_in d = option_map (λ ws. record { all = ws }) (texts d)

-- a list of lists of names
unfoldable pub lists_of_names : Data → Option (List Names)
lists_of_names d = option_and_then (λ items. each names_in (listed items)) (as_array d)

abbrev pub at_most_one : List Word → Option (List Word)
at_most_one ws = if nat_le (length ws) 1 then Some ws else None

-- all three lists, or none of them
unfoldable pub by_presence : Option Data → Option Data → Option Data → Option (Option TaintsDraft)
by_presence None None None = Some None
by_presence (Some args) (Some code) (Some result) =
    option_and_then (λ a. option_and_then (λ c. option_map (λ r.
    Some (record { args = a; code = c; result = r }))
    (option_and_then at_most_one (texts result))) (texts code)) (lists_of_names args)
by_presence _ _ _ = None

unfoldable pub taints_in : Data → Option (Option TaintsDraft)
taints_in d = by_presence (get (codes "argtaints") d) (get (codes "codtaints") d) (get (codes "rettaints") d)

-- the same words, in the same order
unfoldable pub same_words : List Word → List Word → Bool
same_words = pointwise (pointwise nat_eq)

unfoldable pub same_lists : List Names → List Names → Bool
same_lists [] [] = true
same_lists (v ∷ vs) (w ∷ ws) = same_words v.all w.all && same_lists vs ws
same_lists _ _ = false

unfoldable pub same_taints : Option TaintsDraft → Option TaintsDraft → Bool
same_taints None None = true
same_taints (Some s) (Some t) = same_lists s.args t.args && same_words s.code t.code && same_words s.result t.result
same_taints _ _ = false

-- the taints of all entries, where all have the same; a label without entries has none
unfoldable pub common : List (Option TaintsDraft) → Option (Option TaintsDraft)
common [] = Some None
common (t ∷ ts) = if list_all (same_taints t) ts then Some t else None

-- ---- the whole

-- no word stands twice
unfoldable pub are_distinct : List Word → Bool
are_distinct [] = true
are_distinct (w ∷ ws) = list_all (λ v. not (bytes_eq w v)) ws && are_distinct ws

abbrev pub is_some_taints : Option TaintsDraft → Bool
is_some_taints None = false
is_some_taints (Some t) = true

-- a label with its entries' taints
abbrev pub with_taints : Word → List Data → Option TaintsDraft → Option Draft
with_taints level ds taints =
    option_and_then (λ entries.
    if are_distinct (map (λ e. e.remote) entries)
    then Some (record { level = level; entries = entries; taints = taints })
    else None)
    (each (entry_of (is_some_taints taints)) ds)

-- the entries of a label: at most 32, none where the key is absent
abbrev pub entries_under : Option Data → Option (List Data)
entries_under None = Some []
entries_under (Some d) = option_and_then (λ items. if nat_le (length (listed items)) 32 then Some (listed items) else None) (as_array d)

-- What a JSON value says of a label, where it has the shape of a definition.
unfoldable pub draft_of : Data → Option Draft
draft_of d =
    option_and_then (λ level. option_and_then (λ ds. option_and_then (with_taints level ds)
    (option_and_then common (each taints_in ds)))
    (entries_under (get (codes "cdf") d)))
    (option_and_then level_name (text_under (codes "level") d))

-- what the text of a definition says
unfoldable pub draft_in : List ℕ → Option Draft
draft_in text = option_and_then draft_of (json_of text)
