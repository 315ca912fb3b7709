-- The meaning has the functions of a program as the rules know them.
use Rattle.std.proofs.Common.{◌≡◌, ℕ, zero, suc, List, [], ◌∷◌, ◌++◌, refl, sym, ap, ◌∙◌, Bool, true, false, Option, Some, None, subst, bytes_eq, if◌then◌else◌, inl, inr, ◌⊎◌}
use Rattle.std.specs.Prelude.{slice_get, slice_index_or, unwrap_or}
use Rattle.std.proofs.lemmas.Option.{unwrap_or-slice_get}
use Rattle.cl_tree.specs.declared.tree.CType.{CType}
use Rattle.cl_tree.specs.declared.tree.Expr.{Expr}
use Rattle.cl_tree.specs.declared.tree.Declarator.{Declarator}
use Rattle.cl_tree.specs.declared.tree.Item.{Item}
use Rattle.cl_tree.specs.declared.tree.Item.TheVariants as item
use Rattle.cl_tree.specs.Words.{Word}
use Rattle.cl_mean.specs.declared.checked.Checked.{Checked}
use Rattle.cl_mean.specs.declared.checked.FnFact.{FnFact}
use Rattle.cl_mean.specs.declared.labels.Taints.{Taints}
use Rattle.cl_mean.specs.declared.labels.LabelFact.{LabelFact}
use Rattle.cl_mean.specs.Shape.{Structs as Shapes, shape_of, structs_of}
use Rattle.cl_mean.specs.Source.{Static, Definition, Parameter, parameters_of, if_counted, is_counted, taints_of, definition_of, no_item, label_of_function, level_of_function, label_at, definitions_from, function_named, source_of}
use Rattle.cl_typing.specs.Rules.{AllHold}
use Rattle.cl_typing.specs.Scope.{Env, types_of}
use Rattle.cl_typing.specs.Typing.{rules}
use Rattle.typing_laws.specs.Standing.{OneOf, Level, outermost, level_after, AmongItems, Stands}
use Rattle.typing_laws.specs.Named.{Defines}
use Rattle.typing_laws.specs.Meant.{ParametersMatch, FunctionsMatch, ParametersAre, IsDefinitionOf, DefinedByItem}
use Rattle.typing_laws.proofs.Lists.{same_word}
use Rattle.typing_laws.proofs.Items.{program_right}
use Rattle.typing_laws.proofs.Once.{program_once}
use Rattle.typing_laws.proofs.Agreeing.{DefinesName, defined_alike}
use Rattle.typing_laws.proofs.Programs.{item_over}

-- ---- items by number

pub some_one : {A : Type 0} (xs : List A) (k : ℕ) (x : A) → slice_get xs k ≡ Some x → OneOf xs x
some_one [] k x e = absurd cc
some_one (y ∷ ys) zero x e = inl (same_some y x e)
  where
    same_some : {B : Type 0} (a b : B) → ◌≡◌ {A = Option B} (Some a) (Some b) → b ≡ a
    same_some a b q = cc
some_one (y ∷ ys) (suc k) x e = inr (some_one ys k x e)

indexed_by : {A : Type 0} (xs : List A) (k : ℕ) (d : A) (o : Option A) → slice_get xs k ≡ o → unwrap_or o d ≡ slice_index_or xs k d → OneOf xs (slice_index_or xs k d) ⊎ (slice_index_or xs k d ≡ d)
indexed_by xs k d None e u = inr (sym u)
indexed_by xs k d (Some x) e u = inl (subst (λ w. OneOf xs w) u (some_one xs k x e))

pub indexed : {A : Type 0} (xs : List A) (k : ℕ) (d : A) → OneOf xs (slice_index_or xs k d) ⊎ (slice_index_or xs k d ≡ d)
indexed xs k d = indexed_by xs k d (slice_get xs k) refl (unwrap_or-slice_get xs k d)

pub one_among : (is : List Item) (level : Level) (i : Item) → OneOf is i → (there : Level) × AmongItems is level i there
one_among [] level i o = absurd o
one_among (j ∷ is) level i (inl o) = (level, inl (o, refl))
one_among (j ∷ is) level i (inr o) = let a = one_among is (level_after j level) i o in (a.0, inr a.1)

-- ---- definitions

no_function : (name : Word) (d : Definition) → function_named [] name ≡ Some d → ⊥
unfolding function_named
no_function name d h = cc

named_split : (xs ys : List Definition) (name : Word) (d : Definition) → function_named (xs ++ ys) name ≡ Some d → (function_named xs name ≡ Some d) ⊎ (function_named ys name ≡ Some d)
unfolding function_named
named_split [] ys name d h = inr h
named_split (x ∷ xs) ys name d h = one (bytes_eq x.name name) h (named_split xs ys name d)
  where
    one : (b : Bool) → (if b then Some x else function_named (xs ++ ys) name) ≡ Some d → (function_named (xs ++ ys) name ≡ Some d → (function_named xs name ≡ Some d) ⊎ (function_named ys name ≡ Some d))
        → ((if b then Some x else function_named xs name) ≡ Some d) ⊎ (function_named ys name ≡ Some d)
    one true e rest = inl e
    one false e rest = rest e

module _ (structs : Shapes) where
  parameters_are : (taints : Option Taints) (k : ℕ) (ds : List Declarator) → ParametersAre structs (parameters_of structs taints k ds) ds
  parameters_are taints k [] = tt
  parameters_are taints k (d ∷ ds) = (refl, refl, parameters_are taints (suc k) ds)

  parameters_match : (ps : List Parameter) (ds : List Declarator) → ParametersAre structs ps ds → ParametersMatch structs ps (types_of ds)
  parameters_match [] [] h = tt
  parameters_match [] (d ∷ ds) h = absurd h
  parameters_match (p ∷ ps) [] h = absurd h
  parameters_match (p ∷ ps) (d ∷ ds) h = (h.1, parameters_match ps ds h.2)

  found_one : (b : Bool) (e d : Definition) → (if b then Some e else None) ≡ Some d → (b ≡ true) × (e ≡ d)
  found_one true e d h = (refl, cc)
  found_one false e d h = absurd cc

  counted_one : (b : Bool) (e d : Definition) (name : Word) → function_named (if_counted b e) name ≡ Some d → (e.name ≡ name) × (e ≡ d)
  unfolding function_named
  counted_one true e d name h = let f = found_one (bytes_eq e.name name) e d h in (same_word e.name name f.0, f.1)
  counted_one false e d name h = absurd cc

  definition_is : (statics : List Static) (k : ℕ) (f : FnFact) (level : ℕ) (label : Option LabelFact) (i : Item) (name : Word) (d : Definition)
      → function_named (definition_of structs statics k f level label i) name ≡ Some d → DefinesName name i × IsDefinitionOf structs d i
  unfolding definition_of
  definition_is statics k f level label (item.Struct n members line) name d h = absurd (no_function name d h)
  definition_is statics k f level label (item.Variables v) name d h = absurd (no_function name d h)
  definition_is statics k f level label (item.Function is_static result n void_word params None line second) name d h = absurd (no_function name d h)
  definition_is statics k f level label (item.Function is_static result n void_word params (Some body) line second) name d h =
      let c = counted_one (is_counted (taints_of label) params) _ d name h in
      (c.0, of_made _ d c.1 (refl, refl, parameters_are (taints_of label) 0 params, refl))
    where
      of_made : (e g : Definition) → e ≡ g → IsDefinitionOf structs e (item.Function is_static result n void_word params (Some body) line second) → IsDefinitionOf structs g (item.Function is_static result n void_word params (Some body) line second)
      of_made e g p h = subst (λ (w : Definition). IsDefinitionOf structs w (item.Function is_static result n void_word params (Some body) line second)) p h
  definition_is statics k f level label (item.Cle p line) name d h = absurd (no_function name d h)

-- a definition that is found is that of an item
pub record FoundIn (structs : Shapes) (is : List Item) (name : Word) (d : Definition) : Type 0 where
  pub item : Item
  pub stands : OneOf is item
  pub names : DefinesName name item
  pub is_its : IsDefinitionOf structs d item

module _ (checked : Checked) (structs : Shapes) (statics : List Static) where
  no_item_names : (name : Word) (i : Item) → i ≡ no_item → DefinesName name i → ⊥
  no_item_names name i e h = subst (λ (w : Item). DefinesName name w) e h

  definitions_are : (k : ℕ) (fs : List FnFact) (name : Word) (d : Definition) → function_named (definitions_from checked structs statics k fs) name ≡ Some d → FoundIn structs checked.typed.program.items name d
  unfolding definitions_from
  definitions_are k [] name d h = absurd (no_function name d h)
  definitions_are k (f ∷ fs) name d h = which (definitions_are (suc k) fs name d) (named_split (definition_of structs statics k f (level_of_function checked k) (label_at checked.labels.labels (label_of_function checked k)) (slice_index_or checked.typed.program.items f.item no_item)) (definitions_from checked structs statics (suc k) fs) name d h)
    where
      here : DefinesName name (slice_index_or checked.typed.program.items f.item no_item) × IsDefinitionOf structs d (slice_index_or checked.typed.program.items f.item no_item)
          → OneOf checked.typed.program.items (slice_index_or checked.typed.program.items f.item no_item) ⊎ (slice_index_or checked.typed.program.items f.item no_item ≡ no_item) → FoundIn structs checked.typed.program.items name d
      here g (inl o) = record { item = slice_index_or checked.typed.program.items f.item no_item; stands = o; names = g.0; is_its = g.1 }
      here g (inr e) = absurd (no_item_names name (slice_index_or checked.typed.program.items f.item no_item) e g.0)

      which : (function_named (definitions_from checked structs statics (suc k) fs) name ≡ Some d → FoundIn structs checked.typed.program.items name d)
          → (function_named (definition_of structs statics k f (level_of_function checked k) (label_at checked.labels.labels (label_of_function checked k)) (slice_index_or checked.typed.program.items f.item no_item)) name ≡ Some d)
          ⊎ (function_named (definitions_from checked structs statics (suc k) fs) name ≡ Some d) → FoundIn structs checked.typed.program.items name d
      which rest (inl e) =
          here (definition_is structs statics k f (level_of_function checked k) (label_at checked.labels.labels (label_of_function checked k)) (slice_index_or checked.typed.program.items f.item no_item) name d e)
          (indexed checked.typed.program.items f.item no_item)
      which rest (inr e) = rest e

source_functions : (checked : Checked) (name : Word) (d : Definition) → function_named (source_of checked).functions name ≡ Some d → FoundIn (source_of checked).structs checked.typed.program.items name d
unfolding source_of
source_functions checked name d h = definitions_are checked _ _ 0 checked.typed.functions name d h

of_types : (structs : Shapes) (d : Definition) (i : Item) (name : Word) (r : CType) (ps : List CType) → IsDefinitionOf structs d i → Defines name r ps i → (d.result ≡ shape_of structs r) × ParametersMatch structs d.params ps
of_types structs d (item.Struct n members line) name r ps h e = absurd h
of_types structs d (item.Variables v) name r ps h e = absurd h
of_types structs d (item.Function is_static result n void_word params None line second) name r ps h e = absurd h
of_types structs d (item.Function is_static result n void_word params (Some body) line second) name r ps h e =
    (h.1 ∙ ap (shape_of structs) e.1, subst (λ (w : List CType). ParametersMatch structs d.params w) e.2 (parameters_match structs d.params params h.2))
of_types structs d (item.Cle p line) name r ps h e = absurd h

pub functions_match : (checked : Checked) → AllHold (rules checked.typed.program) → (tags names : Env) (x : Expr) → Stands checked.typed.program tags names x → FunctionsMatch (source_of checked).structs names (source_of checked).functions
functions_match checked h tags names x s name r ps d m f =
    let program = checked.typed.program in
    let o = item_over program h.1.1.0 h.1.1.1.0 h.1.1.1.1.0 s.item s.level s.stands s.root names s.evaluates in
    let g = source_functions checked name d f in
    let a = one_among program.items outermost g.item g.stands in
    of_types (source_of checked).structs d g.item name r ps g.is_its
    (defined_alike program.items outermost (program_once program h.1.1.0) (program_right program h.1.1.1.1.0) name r ps s.item s.level s.stands (o name r ps m) g.item a.0 a.1 g.names)

name_of : (structs : Shapes) (d : Definition) (i : Item) (name : Word) → DefinesName name i → IsDefinitionOf structs d i → d.name ≡ name
name_of structs d (item.Struct n members line) name h e = absurd h
name_of structs d (item.Variables v) name h e = absurd h
name_of structs d (item.Function is_static result n void_word params None line second) name h e = absurd h
name_of structs d (item.Function is_static result n void_word params (Some body) line second) name h e = e.0 ∙ h
name_of structs d (item.Cle p line) name h e = absurd h

pub functions_are_items : (checked : Checked) (name : Word) (d : Definition) → function_named (source_of checked).functions name ≡ Some d → DefinedByItem (source_of checked).structs checked.typed.program name d
functions_are_items checked name d h =
    let g = source_functions checked name d h in
    let a = one_among checked.typed.program.items outermost g.item g.stands in
    record { item = g.item; level = a.0; stands = a.1; named = name_of (source_of checked).structs d g.item name g.names g.is_its; is_its = g.is_its }

pub source_structs : (checked : Checked) → (source_of checked).structs ≡ structs_of checked.typed.program.items
unfolding source_of
source_structs checked = refl
