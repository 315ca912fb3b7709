-- Declarations of functions on which pragmas put a label.
use Rattle.std.specs.Prelude.{ℕ, suc, Bool, true, ◌==◌, ◌&&◌, List, [], ◌∷◌, ◌++◌, map, Option, Some, None, slice_get, slice_index_or, if◌then◌else◌}
use Rattle.std.specs.List.{flat_map, list_all}
use Rattle.cl_tree.specs.declared.tree.CType.{out-CType}
use Rattle.cl_tree.specs.declared.tree.Declarator.{Declarator}
use Rattle.cl_tree.specs.declared.tree.Program.{Program}
use Rattle.cl_tree.specs.Words.{Word}
use Rattle.cl_mean.specs.declared.labels.LabelFact.{LabelFact}
use Rattle.cl_mean.specs.declared.labels.Taints.{Taints}
use Rattle.cl_typing.specs.Rules.{Lines, unless}
use Rattle.cl_labelling.specs.Regions.{Subject, function, Marked, marked_of}
use Rattle.cl_labelling.specs.Items.{label_on, label_names}
use Rattle.cl_labelling.specs.Shareable.{all_shareable, is_array, shareable_back}
use Rattle.cle_share.specs.declared.bearings.Bearing as code
use Rattle.cle_share.specs.Signatures.{Parts}

pub record Bearing : Type 0 where
  pub function : Word
  pub label : ℕ
  pub line : ℕ

abbrev pub bearing_by : ℕ → Subject → Option ℕ → List Bearing
bearing_by line (function name) (Some k) = record { function = name; label = k; line = line } ∷ []
bearing_by line _ _ = []

-- those of items, where the labels have these names
unfoldable pub bearings_in : List Word → List Marked → List Bearing
bearings_in names ms = flat_map (λ m. bearing_by m.line m.subject (label_on names m)) ms

abbrev pub bearings_of : Program → List Bearing
bearings_of program = bearings_in (label_names program) (marked_of program)

-- what the code has
abbrev pub bearings : List code.Bearing → List Bearing
bearings bs = map (λ b. record { function = b.function.now; label = b.label; line = b.line }) bs

-- ---- what is lent to the functions that have a label

-- of the taints of each argument of a label, whether they're shareable with each level that it has an entry for
abbrev pub backs : List LabelFact → LabelFact → List Bool
backs labels l = by l.taints
  where
    by : Option Taints → List Bool
    by None = []
    by (Some t) = map (λ m. shareable_back labels l m.all) t.args

abbrev pub all_backs : List LabelFact → List (List Bool)
all_backs labels = map (backs labels) labels

-- whether those of all array parameters are
unfoldable pub go_back : List Bool → List Declarator → Bool
go_back (b ∷ bs) (d ∷ ds) = (if is_array (out-CType d.ctype) then b else true) && go_back bs ds
go_back _ _ = true

abbrev pub lends_by : Option (List Bool) → Option Parts → Bool
lends_by (Some row) (Some s) = go_back row s.params
lends_by _ _ = true

-- how functions are declared, by their names
abbrev pub Known : Type 0
Known = Word → Option Parts

-- What is lent to the function that is declared is shareable with the levels that its label has entries for.
abbrev pub lends : List (List Bool) → Known → Bearing → Bool
lends rows known b = lends_by (slice_get rows b.label) (known b.function)

-- as far as it is a declaration with the label of a number
abbrev pub lends_for : List (List Bool) → Known → ℕ → Bearing → Bool
lends_for rows known k b = if b.label == k then lends rows known b else true

abbrev pub all_lend : List (List Bool) → Known → ℕ → List Bearing → Bool
all_lend rows known k bs = list_all (lends_for rows known k) bs

-- what is noted of each label for the declarations so far
abbrev pub flag_at : List Bool → ℕ → Bool
flag_at flags k = slice_index_or flags k true

-- ---- the labels whose taints aren't shareable

-- The taints of a label are shareable, where it is known whether what is lent to the functions that have it is.
unfoldable pub shared_by : List LabelFact → LabelFact → Bool → Bool
shared_by labels label lending = by label.taints
  where
    by : Option Taints → Bool
    by None = true
    by (Some t) =
        (list_all (λ m. all_shareable labels label.level m.all) t.args
        && (all_shareable labels label.level t.code && shareable_back labels label t.result)) && lending

-- labels by their numbers, from a number on
unfoldable pub unshared_by : (ℕ → Bool) → List LabelFact → ℕ → List LabelFact → Lines
unshared_by lending labels k [] = []
unshared_by lending labels k (l ∷ ls) = unless (shared_by labels l (lending k)) l.line ++ unshared_by lending labels (suc k) ls
