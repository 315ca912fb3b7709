-- E35: a label of a taint list isn't shareable with a level that its data comes to.
use Rattle.std.specs.Prelude.{ℕ, suc, Bool, true, false, ◌&&◌, ◌||◌, ◌==◌, List, [], ◌∷◌, ◌++◌, Option, Some, None, if◌then◌else◌}
use Rattle.std.specs.List.{flat_map, list_all, list_any}
use Rattle.cl_tree.specs.declared.tree.CType.{CType, CType-F, out-CType}
use Rattle.cl_tree.specs.declared.tree.CType.TheOpen as ctype
use Rattle.cl_tree.specs.declared.tree.Declarator.{Declarator}
use Rattle.cl_tree.specs.declared.tree.Program.{Program}
use Rattle.cl_mean.specs.declared.labels.Mention.{Mention}
use Rattle.cl_mean.specs.declared.labels.Mention.TheVariants.{Label, Level}
use Rattle.cl_mean.specs.declared.labels.Mentions.{Mentions}
use Rattle.cl_mean.specs.declared.labels.Direction.{Direction}
use Rattle.cl_mean.specs.declared.labels.Direction.TheVariants.{Egress, Ingress, Bidirectional}
use Rattle.cl_mean.specs.declared.labels.Operation.{Operation}
use Rattle.cl_mean.specs.declared.labels.Operation.TheVariants.{Allow, Block, Redact}
use Rattle.cl_mean.specs.declared.labels.Taints.{Taints}
use Rattle.cl_mean.specs.declared.labels.Entry.{Entry}
use Rattle.cl_mean.specs.declared.labels.LabelFact.{LabelFact}
use Rattle.cl_mean.specs.Source.{label_at}
use Rattle.cl_typing.specs.Rules.{Lines, unless}
use Rattle.cl_labelling.specs.Names.{labels_of}
use Rattle.cl_labelling.specs.Regions.{Subject, function, marked_of}
use Rattle.cl_labelling.specs.Items.{label_on, label_names}
use Rattle.cl_labelling.specs.Fits.{Signature, signature_of}

-- ---- shareable

abbrev pub lets_out : Direction → Bool
lets_out Egress = true
lets_out Bidirectional = true
lets_out Ingress = false

abbrev pub lets_pass : Operation → Bool
lets_pass Block = false
lets_pass Allow = true
lets_pass Redact = true

-- an entry for the level, of a direction that leads there, that doesn't block
unfoldable pub opens_to : ℕ → Entry → Bool
opens_to level e = (e.remote == level) && (lets_out e.direction && lets_pass e.operation)

-- A label is shareable with its own level, and with a level to which an entry opens it. The default label of a level is
-- shareable with that level alone.
unfoldable pub is_shareable : List LabelFact → ℕ → Mention → Bool
is_shareable labels level (Level own) = own == level
is_shareable labels level (Label k) = shared (label_at labels (Some k))
  where
    shared : Option LabelFact → Bool
    shared None = false
    shared (Some label) = (label.level == level) || list_any (opens_to level) label.entries

-- ---- a label of a function

abbrev pub all_shareable : List LabelFact → ℕ → List Mention → Bool
all_shareable labels level mentions = list_all (is_shareable labels level) mentions

-- with each level for which the label has an entry
abbrev pub shareable_back : List LabelFact → LabelFact → List Mention → Bool
shareable_back labels label mentions = list_all (λ e. all_shareable labels e.remote mentions) label.entries

abbrev pub is_array : CType-F CType → Bool
is_array (ctype.Array element size) = true
is_array _ = false

-- What a function is lent goes back: the taints of its array parameters.
unfoldable pub lent : List Mentions → List Declarator → List Mention
lent (m ∷ ms) (d ∷ ds) = (if is_array (out-CType d.ctype) then m.all else []) ++ lent ms ds
lent _ _ = []

abbrev pub maybe_one : Option Signature → List Signature
maybe_one None = []
maybe_one (Some s) = s ∷ []

-- how the function is declared of which this is a declaration, if it has the label
abbrev pub borne_by : Program → ℕ → Subject → Option ℕ → List Signature
borne_by program k (function name) (Some j) = if j == k then maybe_one (signature_of program name) else []
borne_by program k _ _ = []

-- the functions that have a label, by their declarations that have it
abbrev pub bearers : Program → ℕ → List Signature
bearers program k = flat_map (λ m. borne_by program k m.subject (label_on (label_names program) m)) (marked_of program)

-- What comes to a function's level is shareable with it, and what goes back to a caller with the caller's.
unfoldable pub is_shared : Program → List LabelFact → ℕ → LabelFact → Bool
is_shared program labels k label = by label.taints
  where
    by : Option Taints → Bool
    by None = true
    by (Some t) =
        list_all (λ m. all_shareable labels label.level m.all) t.args
        && all_shareable labels label.level t.code
        && shareable_back labels label t.result
        && list_all (λ s. shareable_back labels label (lent t.args s.params)) (bearers program k)

-- labels by their numbers, from a number on
unfoldable pub unshared_from : Program → List LabelFact → ℕ → List LabelFact → Lines
unshared_from program labels k [] = []
unshared_from program labels k (l ∷ ls) = unless (is_shared program labels k l) l.line ++ unshared_from program labels (suc k) ls

unfoldable pub not_shareable : Program → Lines
not_shareable program = unshared_from program (labels_of program) 0 (labels_of program)
