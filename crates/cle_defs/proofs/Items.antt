-- Rules by the numbers of items.
use Rattle.std.proofs.Common.{◌≡◌, List, [], map, sym, ap, ◌∙◌}
use Rattle.cl_tree.specs.declared.tree.Program.{Program}
use Rattle.cl_tree.specs.Words.{Word}
use Rattle.cl_mean.specs.declared.checked.FnFact.{FnFact}
use Rattle.cl_mean.specs.declared.labels.LabelFact.{LabelFact}
use Rattle.cl_labelling.specs.Items.{label_names, on_functions, on_objects, two_labels, wrong_kind}
use Rattle.cl_labelling.specs.Names.{labels_of}
use Rattle.cl_labelling.specs.Regions.{marked_of}
use Rattle.cl_regions.specs.Marks.{Kept, all_kept}
use Rattle.cle_items.specs.Numbered.{Numbered, bearers, function_label, number_kept, numbers_of, object_labels, wrong_kinds}
use Rattle.cle_share.specs.Bearings.{bearings_of}
use Rattle.cle_items.proofs.Labels.{bearers_are, functions_are, kinds_are, numbers_are, objects_are}

pub kinds_here : (program : Program) (labels : List LabelFact) (ns : List Numbered) → labels ≡ labels_of program → ns ≡ numbers_of program → wrong_kinds labels ns ≡ wrong_kind program
kinds_here program labels ns l n = ap (λ (ls : List LabelFact). wrong_kinds ls ns) l ∙ ap (wrong_kinds (labels_of program)) n ∙ sym (kinds_are program)

pub numbers_here : (program : Program) (names : List Word) (ks : List Kept) (ns : List Numbered) → names ≡ label_names program → ks ≡ all_kept (marked_of program)
    → two_labels [] (marked_of program) ≡ [] → ns ≡ map (number_kept names) ks → ns ≡ numbers_of program
numbers_here program names ks ns e k one is =
    is ∙ ap (λ (ws : List Word). map (number_kept ws) ks) e ∙ ap (map (number_kept (label_names program))) k ∙ numbers_are (label_names program) [] (marked_of program) one

pub bearers_here : (program : Program) (ns : List Numbered) → ns ≡ numbers_of program → bearers ns ≡ bearings_of program
bearers_here program ns n = ap bearers n ∙ sym (bearers_are program)

pub functions_here : (program : Program) (facts : List FnFact) (ns : List Numbered) → ns ≡ numbers_of program → map (λ f. function_label ns f.name) facts ≡ on_functions program facts
functions_here program facts ns n = ap (λ (xs : List Numbered). map (λ f. function_label xs f.name) facts) n ∙ sym (functions_are program facts)

pub objects_here : (program : Program) (ns : List Numbered) → ns ≡ numbers_of program → object_labels ns ≡ on_objects program
objects_here program ns n = ap object_labels n ∙ sym (objects_are program)
