-- The label of a function fits how the function is defined.
use Rattle.std.specs.Prelude.{◌≡◌, ◌<◌, ◌≤◌, ℕ, true, List, [], ◌∷◌, length, All, Some, None, slice_get, slice_index_or}
use Rattle.cl_tree.specs.declared.kinds.IntKind.TheVariants.{I32}
use Rattle.cl_tree.specs.declared.tree.CType.{out-CType}
use Rattle.cl_tree.specs.declared.tree.Item.{Item}
use Rattle.cl_tree.specs.declared.tree.Program.{Program}
use Rattle.cl_tree.specs.Arithmetic.{fits}
use Rattle.cl_mean.specs.declared.checked.FnFact.{FnFact}
use Rattle.cl_mean.specs.declared.checked.Typed.{Typed}
use Rattle.cl_mean.specs.declared.labels.LabelFact.{LabelFact}
use Rattle.cl_mean.specs.declared.labels.LabelTable.{LabelTable}
use Rattle.cl_mean.specs.declared.labels.RedactField.{RedactField}
use Rattle.cl_mean.specs.declared.labels.Taints.{Taints}
use Rattle.cl_mean.specs.Shape.{Structs, structs_of, kinds_of, count_of, under}
use Rattle.cl_labelling.specs.Fits.{Signature, defined_by, payload, redacted_by, results}

-- The item of a function's fact defines it so.
abbrev pub IsDefinedAs : Program → FnFact → Signature → Type 0
IsDefinedAs program f s =
    (i : Item) × (slice_get program.items f.item ≡ Some i) × (defined_by i ≡ s ∷ []) × (s.name ≡ f.name)

-- the integers of a function's request or reply that a field names
abbrev pub places_of : Structs → Signature → RedactField → List ℕ
places_of structs s f = under (payload structs s f.reply) f.path 0

-- A field names integers of the payload, at least one, and its number is in the type of each.
pub record FieldFits (structs : Structs) (s : Signature) (f : RedactField) : Type 0 where
  pub some : 1 ≤ length (places_of structs s f)
  pub within : All (λ at. at < count_of (payload structs s f.reply)) (places_of structs s f)
  pub fit : All (λ at. fits (slice_index_or (kinds_of (payload structs s f.reply)) at I32) f.with ≡ true) (places_of structs s f)

-- A label's taints have a list for each parameter, and one name for the result where there is one; and what its entries have
-- replaced fits.
pub record LabelFits (structs : Structs) (s : Signature) (label : LabelFact) (t : Taints) : Type 0 where
  pub args : length t.args ≡ length s.params
  pub result : length t.result ≡ results (out-CType s.result)
  pub fields : All (λ e. All (FieldFits structs s) (redacted_by e)) label.entries

-- The label with this number is in the table, has taints, and fits how the function is defined.
pub record FunctionFits (program : Program) (table : LabelTable) (f : FnFact) (k : ℕ) : Type 0 where
  pub signature : Signature
  pub label : LabelFact
  pub taints : Taints
  pub defined : IsDefinedAs program f signature
  pub listed : slice_get table.labels k ≡ Some label
  pub has_taints : label.taints ≡ Some taints
  pub fits : LabelFits (structs_of program.items) signature label taints

-- An object's label is a label of data: it has no taints.
pub record ObjectFits (table : LabelTable) (k : ℕ) : Type 0 where
  pub label : LabelFact
  pub listed : slice_get table.labels k ≡ Some label
  pub no_taints : label.taints ≡ None

-- Each labelled function has a label that fits it.
abbrev pub FunctionsFit : Typed → LabelTable → Type 0
FunctionsFit typed table =
    (i k : ℕ) (f : FnFact) → slice_get typed.functions i ≡ Some f → slice_get table.on_functions i ≡ Some (Some k)
    → FunctionFits typed.program table f k

-- Each labelled object has a label of data.
abbrev pub ObjectsFit : LabelTable → Type 0
ObjectsFit table = (i k : ℕ) → slice_get table.on_objects i ≡ Some (Some k) → ObjectFits table k
