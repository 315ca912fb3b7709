-- The integers of a payload by the signature of its function.
use Rattle.std.proofs.Common.{◌≡◌, ℕ, zero, suc, ◌+◌, ◌<◌, arith, eq-eqb, ne_eqb, ◌≢◌, List, [], ◌∷◌, ◌++◌, length, refl, sym, ap, subst, ◌∙◌, Bool, true, false, if◌then◌else◌, Option, Some, None, slice_get, slice_index_or, get_or, map, filter, codes}
use Rattle.std.specs.List.{flat_map}
use Rattle.std.proofs.lemmas.Option.{none-some, same_Some}
use Rattle.cl_tree.specs.declared.tree.Declarator.{Declarator}
use Rattle.cl_tree.specs.declared.tree.Item.{Item}
use Rattle.cl_tree.specs.declared.tree.Item.TheVariants.{Struct, Variables, Function, Cle}
use Rattle.cl_mean.specs.declared.checked.Checked.{Checked}
use Rattle.cl_mean.specs.declared.checked.FnFact.{FnFact}
use Rattle.cl_mean.specs.declared.labels.LabelFact.{LabelFact}
use Rattle.cl_mean.specs.declared.labels.Taints.{Taints}
use Rattle.cl_mean.specs.Shape.{Shape, nothing, integer, struct, array, Structs, structs_of, shape_of, members_of}
use Rattle.cl_mean.specs.Source.{Source, Static, Definition, array_members, definition_of, definitions_from, entries_of, function_at, if_counted, is_counted, is_owned_by, item_statics, label_at, label_of_function, level_of_function, lost_label, no_item, parameters_of, payload_of, request_members, source_of, statics_from, taints_of}
use Rattle.cl_tree.specs.Words.{Word}
use Rattle.rpc_codec.specs.declared.leaves.Leaf.{Leaf}
use Rattle.rpc_codec.specs.Leaves.{behind, leads_to, leaves, member_leaves, payload_by}
use Rattle.rpc_codec.specs.Signature.{array_leaves, if_array, item_signature, signature_by, signature_leaves, signature_of}

-- ---- labels

pub label_is : (labels : List LabelFact) (k : ℕ) → label_at labels (Some k) ≡ slice_get labels k
label_is [] k = refl
label_is (l ∷ ls) zero = refl
label_is (l ∷ ls) (suc k) = label_is ls k

pub no_label : (labels : List LabelFact) → label_at labels (Some (length labels)) ≡ None
no_label [] = refl
no_label (l ∷ ls) = no_label ls

pub item_is : {A : Type 0} (xs : List A) (k : ℕ) (d x : A) → slice_get xs k ≡ Some x → slice_index_or xs k d ≡ x
item_is [] k d x e = absurd (none-some x e)
item_is (y ∷ ys) zero d x e = same_Some y x e
item_is (y ∷ ys) (suc k) d x e = item_is ys k d x e

item_lost : {A : Type 0} (xs : List A) (k : ℕ) (d : A) → slice_get xs k ≡ None → slice_index_or xs k d ≡ d
item_lost [] k d e = refl
item_lost (y ∷ ys) zero d e = absurd (none-some y (sym e))
item_lost (y ∷ ys) (suc k) d e = item_lost ys k d e

-- the label of a function, where the table names one
pub label_named : (checked : Checked) (k label : ℕ) → slice_get checked.labels.on_functions k ≡ Some (Some label) → label_at checked.labels.labels (label_of_function checked k) ≡ slice_get checked.labels.labels label
label_named checked k label e = ap (λ (l : Option ℕ). label_at checked.labels.labels l) (item_is checked.labels.on_functions k (lost_label checked) (Some label) e) ∙ label_is checked.labels.labels label

-- where it names none, or says nothing
pub label_unnamed : (checked : Checked) (k : ℕ) → slice_get checked.labels.on_functions k ≡ Some None → label_at checked.labels.labels (label_of_function checked k) ≡ None
label_unnamed checked k e = ap (λ (l : Option ℕ). label_at checked.labels.labels l) (item_is checked.labels.on_functions k (lost_label checked) None e) ∙ unlabelled checked.labels.labels
  where
    unlabelled : (labels : List LabelFact) → label_at labels None ≡ None
    unlabelled [] = refl
    unlabelled (l ∷ ls) = refl

pub label_lost : (checked : Checked) (k : ℕ) → slice_get checked.labels.on_functions k ≡ None → label_at checked.labels.labels (label_of_function checked k) ≡ None
label_lost checked k e = ap (λ (l : Option ℕ). label_at checked.labels.labels l) (item_lost checked.labels.on_functions k (lost_label checked) e) ∙ no_label checked.labels.labels

-- ---- payloads of a definition

request_is : (structs : Structs) (taints : Option Taints) (k : ℕ) (ds : List Declarator) (path : List Word) → member_leaves (request_members (parameters_of structs taints k ds)) true path ≡ member_leaves (members_of structs ds) true path
request_is structs taints k [] path = refl
request_is structs taints k (d ∷ ds) path = ap (λ (xs : List Leaf). leaves (shape_of structs d.ctype) (leads_to true path d.name) (behind path) ++ xs) (request_is structs taints (suc k) ds path)

arrays_are : (structs : Structs) (taints : Option Taints) (k : ℕ) (ds : List Declarator) (path : List Word) → member_leaves (array_members (parameters_of structs taints k ds)) true path ≡ array_leaves structs ds path
arrays_are structs taints k [] path = refl
arrays_are structs taints k (d ∷ ds) path = by (shape_of structs d.ctype) refl (arrays_are structs taints (suc k) ds path)
  where
    by : (s : Shape) → shape_of structs d.ctype ≡ s → member_leaves (array_members (parameters_of structs taints (suc k) ds)) true path ≡ array_leaves structs ds path → member_leaves (array_members (parameters_of structs taints k (d ∷ ds))) true path ≡ if_array (shape_of structs d.ctype) (leads_to true path d.name) (behind path) ++ array_leaves structs ds path
    by nothing e rest = rw e rest
    by (integer kind) e rest = rw e rest
    by (struct ms) e rest = rw e rest
    by (array element size) e rest = rw e (ap (λ (xs : List Leaf). leaves (array element size) (leads_to true path d.name) (behind path) ++ xs) rest)

-- ---- definitions by their numbers

module _ (structs : Structs) (statics : List Static) (f : FnFact) (level : ℕ) (label : Option LabelFact) where
  -- the definition of another function is passed by
  pub other_item : (k n : ℕ) (item : Item) (more : List Definition) → k ≢ n → function_at (definition_of structs statics k f level label item ++ more) n ≡ function_at more n
  unfolding definition_of function_at
  other_item k n (Function a result name b params (Some body) c e) more other = by (is_counted (taints_of label) params)
    where
      by : (t : Bool) → function_at (if_counted t (record { index = k; name = name; line = f.line; level = level; taints = taints_of label; entries = entries_of label; result = shape_of structs result; params = parameters_of structs (taints_of label) 0 params; body = body; statics = map (λ s. s.binding) (filter (is_owned_by k) statics) }) ++ more) n ≡ function_at more n
      by true = rw (ne_eqb k n other) refl
      by false = refl
  other_item k n (Function a result name b params None c e) more other = refl
  other_item k n (Struct name members line) more other = refl
  other_item k n (Variables v) more other = refl
  other_item k n (Cle p line) more other = refl

  -- that of the function itself has the integers of its signature
  pub own_item : (k : ℕ) (reply : Bool) (path : List Word) (item : Item) (more : List Definition) → function_at more k ≡ None → leaves (payload_by (function_at (definition_of structs statics k f level label item ++ more) k) reply) true path ≡ signature_leaves structs reply (item_signature label item) path
  unfolding definition_of function_at
  own_item k reply path (Function a result name b params (Some body) c e) more none = by (is_counted (taints_of label) params)
    where
      same : (way : Bool) → leaves (payload_of (record { index = k; name = name; line = f.line; level = level; taints = taints_of label; entries = entries_of label; result = shape_of structs result; params = parameters_of structs (taints_of label) 0 params; body = body; statics = map (λ s. s.binding) (filter (is_owned_by k) statics) }) way) true path ≡ signature_leaves structs way (Some (record { result = result; params = params })) path
      same false = request_is structs (taints_of label) 0 params path
      same true = ap (λ (xs : List Leaf). leaves (shape_of structs result) (leads_to true path (codes "return")) (behind path) ++ xs) (arrays_are structs (taints_of label) 0 params path)

      by : (t : Bool) → leaves (payload_by (function_at (if_counted t (record { index = k; name = name; line = f.line; level = level; taints = taints_of label; entries = entries_of label; result = shape_of structs result; params = parameters_of structs (taints_of label) 0 params; body = body; statics = map (λ s. s.binding) (filter (is_owned_by k) statics) }) ++ more) k) reply) true path ≡ signature_leaves structs reply (if t then Some (record { result = result; params = params }) else None) path
      by true = rw (eq-eqb k k refl) (same reply)
      by false = rw none refl
  own_item k reply path (Function a result name b params None c e) more none = rw none refl
  own_item k reply path (Struct name members line) more none = rw none refl
  own_item k reply path (Variables v) more none = rw none refl
  own_item k reply path (Cle p line) more none = rw none refl

module _ (checked : Checked) (structs : Structs) (statics : List Static) where
  abbrev item_at : FnFact → Item
  item_at f = slice_index_or checked.typed.program.items f.item no_item

  abbrev label_for : ℕ → Option LabelFact
  label_for k = label_at checked.labels.labels (label_of_function checked k)

  pub later : (fs : List FnFact) (k n : ℕ) → n < k → function_at (definitions_from checked structs statics k fs) n ≡ None
  unfolding definitions_from function_at
  later [] k n h = refl
  later (f ∷ fs) k n h =
      let other : k ≢ n = omega arith in
      other_item structs statics f (level_of_function checked k) (label_for k) k n (item_at f) (definitions_from checked structs statics (suc k) fs) other ∙ later fs (suc k) n (omega arith)

  pub leaves_from : (fs : List FnFact) (k n : ℕ) (reply : Bool) (path : List Word) → leaves (payload_by (function_at (definitions_from checked structs statics k fs) (k + n)) reply) true path ≡ signature_leaves structs reply (signature_by checked (k + n) (slice_get fs n)) path
  unfolding definitions_from function_at
  leaves_from [] k n reply path = refl
  leaves_from (f ∷ fs) k zero reply path =
      let e : k + zero ≡ k = omega arith in
      rw e (own_item structs statics f (level_of_function checked k) (label_for k) k reply path (item_at f) (definitions_from checked structs statics (suc k) fs) (later fs (suc k) k (omega arith)))
  leaves_from (f ∷ fs) k (suc n) reply path =
      let e : k + suc n ≡ suc k + n = omega arith in
      let other : k ≢ suc k + n = omega arith in
      rw e (ap (λ (d : Option Definition). leaves (payload_by d reply) true path) (other_item structs statics f (level_of_function checked k) (label_for k) k (suc k + n) (item_at f) (definitions_from checked structs statics (suc k) fs) other) ∙ leaves_from fs (suc k) n reply path)

-- the integers of a function's payload are those of its signature
pub item_found : (checked : Checked) (k : ℕ) (f : FnFact) (item : Item) → slice_get checked.typed.functions k ≡ Some f → slice_get checked.typed.program.items f.item ≡ Some item → signature_of checked k ≡ item_signature (label_at checked.labels.labels (label_of_function checked k)) item
unfolding signature_of
item_found checked k f item e e' = ap (signature_by checked k) e ∙ ap (item_signature (label_at checked.labels.labels (label_of_function checked k))) (item_is checked.typed.program.items f.item no_item item e')

pub item_missing : (checked : Checked) (k : ℕ) (f : FnFact) → slice_get checked.typed.functions k ≡ Some f → slice_get checked.typed.program.items f.item ≡ None → signature_of checked k ≡ None
unfolding signature_of
item_missing checked k f e e' = ap (signature_by checked k) e ∙ ap (item_signature (label_at checked.labels.labels (label_of_function checked k))) (item_lost checked.typed.program.items f.item no_item e')

pub function_missing : (checked : Checked) (k : ℕ) → slice_get checked.typed.functions k ≡ None → signature_of checked k ≡ None
unfolding signature_of
function_missing checked k e = ap (signature_by checked k) e

pub payload_is : (checked : Checked) (n : ℕ) (reply : Bool) (path : List Word) → leaves (payload_by (function_at (source_of checked).functions n) reply) true path ≡ signature_leaves (structs_of checked.typed.program.items) reply (signature_of checked n) path
unfolding source_of signature_of
payload_is checked n reply path =
    let structs : Structs = structs_of checked.typed.program.items in
    let statics : List Static = statics_from checked structs 0 [] checked.typed.objects (flat_map item_statics checked.typed.program.items) in
    let e : 0 + n ≡ n = omega arith in
    subst (λ (m : ℕ). leaves (payload_by (function_at (definitions_from checked structs statics 0 checked.typed.functions) m) reply) true path ≡ signature_leaves structs reply (signature_by checked m (slice_get checked.typed.functions n)) path) e (leaves_from checked structs statics checked.typed.functions 0 n reply path)
