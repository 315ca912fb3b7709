-- Items with the numbers of their labels.
use Rattle.std.specs.Prelude.{ℕ, List, [], ◌∷◌, map, Option, Some, None}
use Rattle.std.specs.List.{flat_map}
use Rattle.std.specs.BTreeMap.{get_by_text}
use Rattle.cl_tree.specs.declared.tree.Program.{Program}
use Rattle.cl_tree.specs.Words.{Word}
use Rattle.cl_mean.specs.declared.labels.LabelFact.{LabelFact}
use Rattle.cl_typing.specs.Rules.{Lines, unless}
use Rattle.cl_labelling.specs.Names.{number_of}
use Rattle.cl_labelling.specs.Regions.{Subject, objects, function, Marked, marked_of}
use Rattle.cl_labelling.specs.Items.{label_by, label_names, label_on, suits}
use Rattle.cl_regions.specs.Few.{Few, none, one, many}
use Rattle.cl_regions.specs.Marks.{Kept}
use Rattle.cl_regions.specs.Roles.{subject_of}
use Rattle.cle_share.specs.Bearings.{Bearing, bearing_by}
use Rattle.cl_mean.specs.Shape.{times}
use Rattle.cle_items.specs.declared.numbers.Numbered as code
use Rattle.cle_items.specs.declared.functions.Chosen.{Chosen}

pub record Numbered : Type 0 where
  pub subject : Subject
  pub line : ℕ
  pub label : Option ℕ

-- the number of the one label, where the labels have these names
abbrev pub number_by : List Word → Few → Option ℕ
number_by names none = None
number_by names (one w) = Some (number_of names w)
number_by names many = None

-- what is kept of an item, with the number of its label
abbrev pub number_kept : List Word → Kept → Numbered
number_kept names k = record { subject = k.subject; line = k.line; label = number_by names k.labels }

-- the same of an item of the definition
abbrev pub numbered_by : List Word → Marked → Numbered
numbered_by names m = record { subject = m.subject; line = m.line; label = label_on names m }

-- what the code has
abbrev pub numbered : List code.Numbered → List Numbered
numbered ns = map (λ n. record { subject = subject_of n.subject; line = n.line; label = n.label }) ns

-- the items whose label is of the wrong kind
abbrev pub kind_at : List LabelFact → Numbered → Lines
kind_at labels n = unless (suits labels n.subject n.label) n.line

unfoldable pub wrong_kinds : List LabelFact → List Numbered → Lines
wrong_kinds labels ns = flat_map (kind_at labels) ns

-- the declarations of functions that have a label
unfoldable pub bearers : List Numbered → List Bearing
bearers ns = flat_map (λ n. bearing_by n.line n.subject n.label) ns

-- ---- the labels of objects and of functions

-- the label of each object that an item declares
abbrev pub labels_by : Subject → Option ℕ → List (Option ℕ)
labels_by (objects count) label = times count (label ∷ [])
labels_by (function name) label = []

unfoldable pub object_labels : List Numbered → List (Option ℕ)
object_labels ns = flat_map (λ n. labels_by n.subject n.label) ns

-- the label of a function: that of the first of its declarations that has one
unfoldable pub function_label : List Numbered → Word → Option ℕ
function_label [] name = None
function_label (n ∷ ns) name = label_by name n.subject n.label (function_label ns name)

abbrev pub or_first : Option ℕ → Option ℕ → Option ℕ
or_first (Some k) other = Some k
or_first None other = other

-- the label that is noted for a function
abbrev pub noted_at : Chosen → Word → Option ℕ
noted_at chosen name = get_by_text chosen.labels name

-- the items of a program with the numbers of their labels
abbrev pub numbers_of : Program → List Numbered
numbers_of program = map (numbered_by (label_names program)) (marked_of program)
