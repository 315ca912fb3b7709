-- The label of an item: E15 and E16.
use Rattle.std.specs.Prelude.{ℕ, Bool, true, false, not, ◌&&◌, nat_le, List, [], ◌∷◌, ◌++◌, map, length, Option, Some, None, option_map, bytes_eq, if◌then◌else◌}
use Rattle.std.specs.List.{flat_map, list_all}
use Rattle.cl_tree.specs.declared.tree.Program.{Program}
use Rattle.cl_tree.specs.Words.{Word}
use Rattle.cl_mean.specs.declared.labels.LabelFact.{LabelFact}
use Rattle.cl_mean.specs.declared.checked.FnFact.{FnFact}
use Rattle.cl_mean.specs.Shape.{times}
use Rattle.cl_mean.specs.Source.{label_at, taints_of}
use Rattle.cl_typing.specs.Rules.{Lines, unless}
use Rattle.cl_labelling.specs.Names.{names_of, number_of, labels_of}
use Rattle.cl_labelling.specs.Pragmas.{definitions_of}
use Rattle.cl_labelling.specs.Regions.{Subject, objects, function, Marked, marked_of}

-- ---- E15: an item has two pragmas, or two declarations of a function have different labels

-- An earlier declaration of the function has no other label. One without a label is never different.
abbrev pub agrees : Word → List Word → Marked → Bool
agrees name marks m = by m.subject
  where
    same : List Word → List Word → Bool
    same (v ∷ vs) (w ∷ ws) = bytes_eq v w
    same _ _ = true

    by : Subject → Bool
    by (objects count) = true
    by (function other) = if bytes_eq other name then same m.marks marks else true

abbrev pub is_one : List Marked → Marked → Bool
is_one before m = nat_le (length m.marks) 1 && by m.subject
  where
    by : Subject → Bool
    by (objects count) = true
    by (function name) = list_all (agrees name m.marks) before

-- `before` has the items before, in any order
unfoldable pub two_labels : List Marked → List Marked → Lines
two_labels before [] = []
two_labels before (m ∷ ms) = unless (is_one before m) m.line ++ two_labels (m ∷ before) ms

-- ---- the labels of functions and objects

abbrev pub first_of : List Word → Option Word
first_of [] = None
first_of (w ∷ ws) = Some w

-- the number of the label that a pragma puts on an item
abbrev pub label_on : List Word → Marked → Option ℕ
label_on names m = option_map (number_of names) (first_of m.marks)

abbrev pub label_by : Word → Subject → Option ℕ → Option ℕ → Option ℕ
label_by name (function other) (Some k) rest = if bytes_eq other name then Some k else rest
label_by name _ _ rest = rest

-- A function has the label of those of its declarations that have one.
unfoldable pub label_of_function : List Word → List Marked → Word → Option ℕ
label_of_function names [] name = None
label_of_function names (m ∷ ms) name = label_by name m.subject (label_on names m) (label_of_function names ms name)

-- the labels of the objects that an item declares
abbrev pub labels_on : List Word → Marked → List (Option ℕ)
labels_on names m = by m.subject
  where
    by : Subject → List (Option ℕ)
    by (objects count) = times count (label_on names m ∷ [])
    by (function name) = []

abbrev pub label_names : Program → List Word
label_names program = names_of (definitions_of program)

-- the labels of functions, in the order of their definitions
unfoldable pub on_functions : Program → List FnFact → List (Option ℕ)
on_functions program fs = map (λ f. label_of_function (label_names program) (marked_of program) f.name) fs

-- the labels of objects of static duration, in the order of the source
unfoldable pub on_objects : Program → List (Option ℕ)
on_objects program = flat_map (labels_on (label_names program)) (marked_of program)

-- ---- E16: a function has a data label, or a variable a function label

-- A label with taints is a function's.
abbrev pub is_function_label : Option LabelFact → Bool
is_function_label label = some (taints_of label)
  where
    some : {A : Type 0} → Option A → Bool
    some None = false
    some (Some t) = true

abbrev pub suits : List LabelFact → Subject → Option ℕ → Bool
suits labels subject None = true
suits labels (function name) (Some k) = is_function_label (label_at labels (Some k))
suits labels (objects count) (Some k) = not (is_function_label (label_at labels (Some k)))

-- each declaration that has the label, so first the first one
unfoldable pub wrong_kind : Program → Lines
wrong_kind program =
    flat_map (λ m. unless (suits (labels_of program) m.subject (label_on (label_names program) m)) m.line) (marked_of program)
