-- What names may stand for, and the table of labels, as the definitions have them.
use Rattle.std.specs.Prelude.{ℕ, ◌<◌, ◌^◌, List, [], map, length, option_map}
use Rattle.std.specs.List.{flat_map}
use Rattle.cl_tree.specs.declared.token.Pragma.{Pragma}
use Rattle.cl_tree.specs.declared.token.Pragma.TheVariants as pragma
use Rattle.cl_tree.specs.Words.{Word}
use Rattle.cl_mean.specs.declared.labels.LabelFact.{LabelFact}
use Rattle.cl_labelling.specs.declared.draft.Draft.{Draft}
use Rattle.cl_labelling.specs.Text.{draft_in}
use Rattle.cl_labelling.specs.Names.{Named, number_of, entry_of, taints_of, label_fact}
use Rattle.cl_labelling.specs.Pragmas.{Placed}
use Rattle.cle_names.specs.declared.known.Known.{Known}
use Rattle.cle_names.specs.Walked.{definitions_in}

abbrev pub named_by : Known → Named
named_by known = record { levels = known.levels.now; labels = known.labels.now }

-- the numbers of levels and labels have 32 bits
pub record IsSmall (named : Named) : Type 0 where
  pub levels : length named.levels < 2 ^ 32
  pub labels : length named.labels < 2 ^ 32

-- the label of a name that a definition describes
abbrev pub facts_of : Named → Word → Draft → ℕ → LabelFact
facts_of named name draft line = record {
  name = name;
  level = number_of named.levels draft.level;
  entries = map (entry_of named) draft.entries;
  taints = option_map (taints_of named) draft.taints;
  line = line;
}

-- what a pragma adds to the table
abbrev pub facts_at : Named → Placed → List LabelFact
facts_at named p = by p.pragma
  where
    by : Pragma → List LabelFact
    by (pragma.Def name text) = label_fact named (record { name = name; text = text; line = p.line }) (draft_in text)
    by _ = []

-- the labels that pragmas define, in their order
unfoldable pub labels_in : Named → List Placed → List LabelFact
labels_in named ps = flat_map (λ d. label_fact named d (draft_in d.text)) (definitions_in ps)
