-- The result and the parameters of a function, and the integers of its payloads by them.
use Rattle.std.specs.Prelude.{ℕ, Bool, true, false, List, [], ◌∷◌, ◌++◌, Option, Some, None, slice_get, slice_index_or, codes, if◌then◌else◌}
use Rattle.cl_tree.specs.Words.{Word}
use Rattle.cl_tree.specs.declared.tree.CType.{CType}
use Rattle.cl_tree.specs.declared.tree.Declarator.{Declarator}
use Rattle.cl_tree.specs.declared.tree.Item.{Item}
use Rattle.cl_tree.specs.declared.tree.Item.TheVariants.{Function}
use Rattle.cl_mean.specs.declared.checked.Checked.{Checked}
use Rattle.cl_mean.specs.declared.checked.FnFact.{FnFact}
use Rattle.cl_mean.specs.declared.labels.LabelFact.{LabelFact}
use Rattle.cl_mean.specs.Shape.{Shape, array, Structs, shape_of, members_of}
use Rattle.rpc_codec.specs.declared.leaves.Leaf.{Leaf}
use Rattle.rpc_codec.specs.Leaves.{leaves, member_leaves, leads_to, behind}
use Rattle.cl_mean.specs.Source.{is_counted, label_at, label_of_function, no_item, taints_of}

pub record Signature : Type 0 where
  pub result : CType
  pub params : List Declarator

abbrev pub item_signature : Option LabelFact → Item → Option Signature
item_signature label (Function _ result _ _ params (Some body) _ _) =
    if is_counted (taints_of label) params then Some (record { result = result; params = params }) else None
item_signature label _ = None

abbrev pub signature_by : Checked → ℕ → Option FnFact → Option Signature
signature_by checked k None = None
signature_by checked k (Some f) =
    item_signature (label_at checked.labels.labels (label_of_function checked k)) (slice_index_or checked.typed.program.items f.item no_item)

-- that of the function of a number, where it has a definition
unfoldable pub signature_of : Checked → ℕ → Option Signature
signature_of checked k = signature_by checked k (slice_get checked.typed.functions k)

-- the integers of a parameter of a reply, if it is an array
abbrev pub if_array : Shape → Bool → List Word → List Leaf
if_array (array element size) on path = leaves (array element size) on path
if_array _ on path = []

abbrev pub array_leaves : Structs → List Declarator → List Word → List Leaf
array_leaves structs [] path = []
array_leaves structs (d ∷ ds) path = if_array (shape_of structs d.ctype) (leads_to true path d.name) (behind path) ++ array_leaves structs ds path

abbrev pub signature_leaves : Structs → Bool → Option Signature → List Word → List Leaf
signature_leaves structs reply None path = []
signature_leaves structs false (Some s) path = member_leaves (members_of structs s.params) true path
signature_leaves structs true (Some s) path =
    leaves (shape_of structs s.result) (leads_to true path (codes "return")) (behind path) ++ array_leaves structs s.params path
