-- The rules of labels in their order, and the table of labels.
use Rattle.std.specs.Prelude.{◌≡◌, ℕ, List, [], ◌∷◌}
use Rattle.cl_tree.specs.declared.tree.Program.{Program}
use Rattle.cl_mean.specs.declared.checked.Typed.{Typed}
use Rattle.cl_mean.specs.declared.labels.LabelTable.{LabelTable}
use Rattle.cl_typing.specs.Rules.{Rule, rule, AllHold, FirstFails}
use Rattle.cl_labelling.specs.Pragmas.{pragmas_of, definitions_of}
use Rattle.cl_labelling.specs.Names.{not_json, misshapen, defined_twice, named_in, not_known, levels_of, labels_of}
use Rattle.cl_labelling.specs.Regions.{bad_region, marked_of}
use Rattle.cl_labelling.specs.Items.{two_labels, wrong_kind, on_functions, on_objects}
use Rattle.cl_labelling.specs.Fits.{taints_misfit}
use Rattle.cl_labelling.specs.Shareable.{not_shareable}

-- the rules of labels, in the order in which they are looked at
abbrev pub label_rules : Program → List Rule
label_rules p = rule 10 (not_json (definitions_of p)) ∷ rule 11 (misshapen [] (definitions_of p))
    ∷ rule 12 (defined_twice [] (definitions_of p)) ∷ rule 13 (not_known (named_in p) (pragmas_of p)) ∷ rule 14 (bad_region p)
    ∷ rule 15 (two_labels [] (marked_of p)) ∷ rule 16 (wrong_kind p) ∷ rule 17 (taints_misfit p) ∷ rule 35 (not_shareable p) ∷ []

-- A table is that of a typed program: the rules of labels hold, and it has the program's levels, its labels, and the labels
-- of its functions and of its objects.
pub record IsLabelled (typed : Typed) (table : LabelTable) : Type 0 where
  pub holds : AllHold (label_rules typed.program)
  pub levels : table.levels ≡ levels_of typed.program
  pub labels : table.labels ≡ labels_of typed.program
  pub on_functions : table.on_functions ≡ on_functions typed.program typed.functions
  pub on_objects : table.on_objects ≡ on_objects typed.program

abbrev pub LabellingFails : Typed → ℕ → ℕ → Type 0
LabellingFails typed number line = FirstFails (label_rules typed.program) number line
