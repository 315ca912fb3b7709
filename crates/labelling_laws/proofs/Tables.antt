-- The table of a typed program, by the rules that hold of it.
use Rattle.std.proofs.Common.{◌≡◌, ◌<◌, ◌≤◌, ℕ, zero, suc, arith, List, [], ◌∷◌, map, length, sym, ap, ◌∙◌, subst, Bool, true, false, Option, Some, None, option_map, bytes_eq, if◌then◌else◌}
use Rattle.std.specs.Prelude.{All}
use Rattle.std.specs.List.{flat_map}
use Rattle.std.proofs.lemmas.List.Elements.{All-from_recursion}
use Rattle.std.proofs.lemmas.List.{length-map}
use Rattle.cl_tree.specs.declared.tree.Program.{Program}
use Rattle.cl_tree.specs.Words.{Word}
use Rattle.cl_mean.specs.declared.checked.FnFact.{FnFact}
use Rattle.cl_mean.specs.declared.checked.Typed.{Typed}
use Rattle.cl_mean.specs.declared.labels.LabelFact.{LabelFact}
use Rattle.cl_mean.specs.declared.labels.LabelTable.{LabelTable}
use Rattle.cl_mean.specs.Shape.{times}
use Rattle.cl_typing.specs.Rules.{AllHold}
use Rattle.cl_typing.specs.Typing.{IsTyped}
use Rattle.cl_labelling.specs.Pragmas.{definitions_of, pragmas_of}
use Rattle.cl_labelling.specs.Names.{named_in, number_of, levels_of, labels_of}
use Rattle.cl_labelling.specs.Regions.{Subject, objects, function, Marked, item_part, marked_of}
use Rattle.cl_labelling.specs.Items.{first_of, label_on, label_by, label_of_function, labels_on, label_names, on_functions, on_objects}
use Rattle.cl_labelling.specs.Labelling.{label_rules, IsLabelled}
use Rattle.typing_laws.proofs.Listing.{objects_each}
use Rattle.labelling_laws.specs.Within.{MaybeWithin, LabelWithin}
use Rattle.labelling_laws.proofs.Elements.{Each, each_append}
use Rattle.labelling_laws.proofs.Numbers.{number_below}
use Rattle.labelling_laws.proofs.Definitions.{levels_few, shaped, pragmas_known, definitions_known, Good, goods, facts_counted, facts_within}
use Rattle.labelling_laws.proofs.Marks.{IsLabel, PlacedKnown, MarksKnown, marked_known, items_known}
use Rattle.labelling_laws.proofs.Counts.{labels_counted}

-- ---- what the rules say of a program

module _ (program : Program) (holds : AllHold (label_rules program)) where
  known : Each (PlacedKnown (named_in program)) (pragmas_of program)
  known = pragmas_known (named_in program) (pragmas_of program) holds.1.1.1.0

  good : Each (Good (named_in program)) (definitions_of program)
  unfolding definitions_of levels_of named_in
  good = goods (named_in program) (definitions_of program) (shaped (definitions_of program) [] holds.1.0)
      (definitions_known (named_in program) (pragmas_of program) known)

  pub few : length (levels_of program) ≤ 32
  unfolding levels_of
  few = levels_few (definitions_of program) [] (omega arith) holds.1.0

  pub counted : length (labels_of program) ≡ length (label_names program)
  unfolding labels_of
  counted = facts_counted (named_in program) (definitions_of program) good ∙ sym (length-map (definitions_of program) _)

  pub marks : Each (MarksKnown (named_in program)) (marked_of program)
  unfolding marked_of pragmas_of
  marks = marked_known (named_in program) [] [] (map item_part program.items) tt tt (items_known (named_in program) program.items known)

  -- the label of an item is one of the table
  abbrev pub NumberWithin : Option ℕ → Type 0
  NumberWithin None = Unit {0}
  NumberWithin (Some k) = k < length (labels_of program)

  on_within : (words : List Word) → Each (IsLabel (named_in program)) words → NumberWithin (option_map (number_of (label_names program)) (first_of words))
  unfolding named_in
  on_within [] h = tt
  on_within (w ∷ ws) h = rw counted (number_below (label_names program) w h.0)

  by_within : (name : Word) (subject : Subject) (here rest : Option ℕ) → NumberWithin here → NumberWithin rest → NumberWithin (label_by name subject here rest)
  by_within name (objects count) here rest h k = k
  by_within name (function other) None rest h k = k
  by_within name (function other) (Some n) rest h k = by (bytes_eq other name)
    where
      by : (b : Bool) → NumberWithin (if b then Some n else rest)
      by true = h
      by false = k

  function_within : (name : Word) (ms : List Marked) → Each (MarksKnown (named_in program)) ms → NumberWithin (label_of_function (label_names program) ms name)
  unfolding label_of_function
  function_within name [] h = tt
  function_within name (m ∷ ms) h = by_within name m.subject (label_on (label_names program) m) _ (on_within m.marks h.0) (function_within name ms h.1)

  functions_within : (fs : List FnFact) → Each NumberWithin (on_functions program fs)
  unfolding on_functions
  functions_within [] = tt
  functions_within (f ∷ fs) = (function_within f.name (marked_of program) marks, functions_within fs)

  times_within : (n : ℕ) (x : Option ℕ) → NumberWithin x → Each NumberWithin (times n (x ∷ []))
  times_within zero x h = tt
  times_within (suc n) x h = (h, times_within n x h)

  object_within : (subject : Subject) (line : ℕ) (words : List Word) → Each (IsLabel (named_in program)) words
      → Each NumberWithin (labels_on (label_names program) (record { subject = subject; line = line; marks = words }))
  object_within (objects count) line words h = times_within count _ (on_within words h)
  object_within (function name) line words h = tt

  objects_within : (ms : List Marked) → Each (MarksKnown (named_in program)) ms → Each NumberWithin (flat_map (labels_on (label_names program)) ms)
  objects_within [] h = tt
  objects_within (m ∷ ms) h = each_append NumberWithin (labels_on (label_names program) m) _ (object_within m.subject m.line m.marks h.0) (objects_within ms h.1)

  pub all_objects : Each NumberWithin (on_objects program)
  unfolding on_objects
  all_objects = objects_within (marked_of program) marks

-- ---- a table

module _ (typed : Typed) (table : LabelTable) (is : IsLabelled typed table) where
  numbers_here : (o : Option ℕ) → NumberWithin typed.program is.holds o → MaybeWithin table o
  numbers_here None h = tt
  numbers_here (Some k) h = rw is.labels h

  each_here : (os : List (Option ℕ)) → Each (NumberWithin typed.program is.holds) os → Each (MaybeWithin table) os
  each_here [] h = tt
  each_here (o ∷ os) h = (numbers_here o h.0, each_here os h.1)

  pub levels_are_few : length table.levels ≤ 32
  levels_are_few = rw is.levels (few typed.program is.holds)

  pub labels_within : All (LabelWithin table) table.labels
  unfolding labels_of named_in
  labels_within = subst (λ (ls : List LabelFact). All (LabelWithin table) ls) (sym is.labels)
      (All-from_recursion (LabelWithin table) (labels_of typed.program)
      (facts_within table (named_in typed.program) is.levels (ap length is.labels ∙ counted typed.program is.holds) (definitions_of typed.program) (good typed.program is.holds)))

  pub on_functions_within : All (MaybeWithin table) table.on_functions
  on_functions_within = subst (λ (os : List (Option ℕ)). All (MaybeWithin table) os) (sym is.on_functions)
      (All-from_recursion (MaybeWithin table) (on_functions typed.program typed.functions) (each_here _ (functions_within typed.program is.holds typed.functions)))

  pub on_objects_within : All (MaybeWithin table) table.on_objects
  on_objects_within = subst (λ (os : List (Option ℕ)). All (MaybeWithin table) os) (sym is.on_objects)
      (All-from_recursion (MaybeWithin table) (on_objects typed.program) (each_here _ (all_objects typed.program is.holds)))

  pub functions_counted : length table.on_functions ≡ length typed.functions
  unfolding on_functions
  functions_counted = ap length is.on_functions ∙ length-map typed.functions _

pub objects_counted : (program : Program) (typed : Typed) (table : LabelTable) → IsTyped program typed → IsLabelled typed table → length table.on_objects ≡ length typed.objects
objects_counted program typed table types is =
    ap length is.on_objects ∙ ap (λ (p : Program). length (on_objects p)) types.same
    ∙ labels_counted program _ (objects_each program) ∙ sym (ap length types.objects)
