-- Levels and labels by their names: E10 to E13, and the table of labels.
use Rattle.std.specs.Prelude.{ℕ, suc, Bool, true, false, not, ◌&&◌, ◌==◌, nat_le, List, [], ◌∷◌, ◌++◌, map, length, Option, Some, None, option_map, is_some, bytes_eq, if◌then◌else◌}
use Rattle.std.specs.List.{flat_map, list_all, list_any}
use Prim.Native.Char.{code}
use Rattle.cl_tree.specs.declared.token.Pragma.{Pragma}
use Rattle.cl_tree.specs.declared.token.Pragma.TheVariants as pragma
use Rattle.cl_tree.specs.declared.tree.Program.{Program}
use Rattle.cl_tree.specs.Words.{Word}
use Rattle.cl_mean.specs.declared.labels.Mention.{Mention}
use Rattle.cl_mean.specs.declared.labels.Mention.TheVariants.{Label, Level}
use Rattle.cl_mean.specs.declared.labels.Taints.{Taints}
use Rattle.cl_mean.specs.declared.labels.Entry.{Entry}
use Rattle.cl_mean.specs.declared.labels.LabelFact.{LabelFact}
use Rattle.cl_typing.specs.Rules.{Lines, unless}
use Rattle.cl_labelling.specs.declared.draft.TaintsDraft.{TaintsDraft}
use Rattle.cl_labelling.specs.declared.draft.EntryDraft.{EntryDraft}
use Rattle.cl_labelling.specs.declared.draft.Draft.{Draft}
use Rattle.cl_labelling.specs.Json.{json_of}
use Rattle.cl_labelling.specs.Text.{draft_in}
use Rattle.cl_labelling.specs.Pragmas.{Placed, Definition, definitions_of}

-- ---- E10: the text of a definition has no reading as JSON

unfoldable pub not_json : List Definition → Lines
not_json ds = flat_map (λ d. unless (is_some (json_of d.text)) d.line) ds

-- ---- E11: its shape isn't that of a definition, or it brings a 33rd level

unfoldable pub has_word : List Word → Word → Bool
has_word ws w = list_any (bytes_eq w) ws

-- Levels in the order in which they are first named.
abbrev pub with_level : List Word → Word → List Word
with_level levels level = if has_word levels level then levels else levels ++ level ∷ []

abbrev pub levels_after : List Word → Option Draft → List Word
levels_after levels None = levels
levels_after levels (Some draft) = with_level levels draft.level

abbrev pub is_shaped : List Word → Option Draft → Bool
is_shaped levels draft = is_some draft && nat_le (length (levels_after levels draft)) 32

unfoldable pub misshapen : List Word → List Definition → Lines
misshapen levels [] = []
misshapen levels (d ∷ ds) =
    unless (is_shaped levels (draft_in d.text)) d.line ++ misshapen (levels_after levels (draft_in d.text)) ds

-- the levels of a program, by their numbers
unfoldable pub levels_in : List Word → List Definition → List Word
levels_in levels [] = levels
levels_in levels (d ∷ ds) = levels_in (levels_after levels (draft_in d.text)) ds

unfoldable pub levels_of : Program → List Word
levels_of program = levels_in [] (definitions_of program)

-- ---- E12: a label is defined a second time

abbrev pub names_of : List Definition → List Word
names_of ds = map (λ d. d.name) ds

unfoldable pub defined_twice : List Word → List Definition → Lines
defined_twice seen [] = []
defined_twice seen (d ∷ ds) = unless (not (has_word seen d.name)) d.line ++ defined_twice (d.name ∷ seen) ds

-- ---- E13: a pragma, a taint list or a `remotelevel` names no label or level

-- What names may stand for: the levels, and the labels.
pub record Named : Type 0 where
  pub levels : List Word
  pub labels : List Word

unfoldable pub named_in : Program → Named
named_in program = record { levels = levels_of program; labels = names_of (definitions_of program) }

-- a name of a taint list: a label, or `@` and a level
unfoldable pub is_mentioned : Named → Word → Bool
is_mentioned named [] = false
is_mentioned named (b ∷ bs) = if b == code "@" then has_word named.levels bs else has_word named.labels (b ∷ bs)

abbrev pub all_mentioned : Named → List Word → Bool
all_mentioned named ws = list_all (is_mentioned named) ws

abbrev pub taints_known : Named → Option TaintsDraft → Bool
taints_known named None = true
taints_known named (Some t) =
    list_all (λ a. all_mentioned named a.all) t.args && all_mentioned named t.code && all_mentioned named t.result

abbrev pub draft_known : Named → Option Draft → Bool
draft_known named None = true
draft_known named (Some draft) =
    list_all (λ e. has_word named.levels e.remote) draft.entries && taints_known named draft.taints

abbrev pub pragma_known : Named → Pragma → Bool
pragma_known named (pragma.Def name text) = draft_known named (draft_in text)
pragma_known named (pragma.Begin name) = has_word named.labels name
pragma_known named (pragma.End name) = has_word named.labels name
pragma_known named (pragma.Next name) = has_word named.labels name

unfoldable pub not_known : Named → List Placed → Lines
not_known named ps = flat_map (λ p. unless (pragma_known named p.pragma) p.line) ps

-- ---- the table of labels

-- the number of a word; behind the last where it isn't there
unfoldable pub number_of : List Word → Word → ℕ
number_of [] w = 0
number_of (v ∷ vs) w = if bytes_eq v w then 0 else suc (number_of vs w)

unfoldable pub mention_of : Named → Word → Mention
mention_of named [] = Label (number_of named.labels [])
mention_of named (b ∷ bs) =
    if b == code "@" then Level (number_of named.levels bs) else Label (number_of named.labels (b ∷ bs))

abbrev pub mentions_of : Named → List Word → List Mention
mentions_of named ws = map (mention_of named) ws

abbrev pub taints_of : Named → TaintsDraft → Taints
taints_of named t = record {
  args = map (λ a. record { all = mentions_of named a.all }) t.args;
  code = mentions_of named t.code;
  result = mentions_of named t.result;
}

abbrev pub entry_of : Named → EntryDraft → Entry
entry_of named e = record {
  remote = number_of named.levels e.remote;
  direction = e.direction;
  operation = e.operation;
  redact = e.redact;
  oneway = false;
}

abbrev pub label_fact : Named → Definition → Option Draft → List LabelFact
label_fact named d None = []
label_fact named d (Some draft) = record {
  name = d.name;
  level = number_of named.levels draft.level;
  entries = map (entry_of named) draft.entries;
  taints = option_map (taints_of named) draft.taints;
  line = d.line;
} ∷ []

-- the labels in the order of their definitions
unfoldable pub labels_of : Program → List LabelFact
labels_of program = flat_map (λ d. label_fact (named_in program) d (draft_in d.text)) (definitions_of program)
