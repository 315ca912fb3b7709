-- The label of a function or of an object fits it.
use Rattle.std.proofs.Common.{◌≡◌, ◌<◌, ◌≤◌, ◌+◌, ℕ, zero, suc, arith, List, [], ◌∷◌, ◌++◌, length, refl, sym, ap, ◌∙◌, subst, Bool, true, false, Option, Some, None, bytes_eq, if◌then◌else◌, inl, inr, eqb-true}
use Rattle.std.specs.Prelude.{slice_get, slice_index_or, ◌==◌, ◌&&◌}
use Rattle.std.specs.List.{flat_map, list_all}
use Rattle.std.proofs.lemmas.List.Elements.{All-from_recursion}
use Rattle.cl_tree.specs.declared.kinds.IntKind.TheVariants.{I32}
use Rattle.cl_tree.specs.declared.tree.CType.{out-CType}
use Rattle.cl_tree.specs.declared.tree.Item.{Item}
use Rattle.cl_tree.specs.declared.tree.Item.TheVariants as item
use Rattle.cl_tree.specs.declared.tree.Program.{Program}
use Rattle.cl_tree.specs.Arithmetic.{fits}
use Rattle.cl_tree.specs.Words.{Word}
use Rattle.cl_mean.specs.declared.checked.FnFact.{FnFact}
use Rattle.cl_mean.specs.declared.checked.Typed.{Typed}
use Rattle.cl_mean.specs.declared.labels.LabelFact.{LabelFact}
use Rattle.cl_mean.specs.declared.labels.LabelTable.{LabelTable}
use Rattle.cl_mean.specs.declared.labels.RedactField.{RedactField}
use Rattle.cl_mean.specs.declared.labels.Taints.{Taints}
use Rattle.cl_mean.specs.Shape.{Structs, structs_of, kinds_of, count_of, times}
use Rattle.cl_mean.specs.Source.{label_at}
use Rattle.cl_typing.specs.Facts.{function_facts, functions_from, functions_of}
use Rattle.cl_typing.specs.Typing.{IsTyped}
use Rattle.cl_labelling.specs.Names.{labels_of}
use Rattle.cl_labelling.specs.Regions.{Subject, objects, function, Marked, marked_of}
use Rattle.cl_labelling.specs.Items.{label_by, label_on, label_of_function, labels_on, label_names, on_functions, on_objects, is_function_label, suits, wrong_kind}
use Rattle.cl_labelling.specs.Fits.{Signature, signature, defined_by, declared_by, signature_among, signature_of, payload, any_there, field_fits, redacted_by, results, label_fits, subject_fits, taints_misfit}
use Rattle.cl_labelling.specs.Labelling.{IsLabelled}
use Rattle.typing_laws.specs.Standing.{OneOf}
use Rattle.typing_laws.specs.Listed.{Distinct}
use Rattle.typing_laws.proofs.Lists.{none_in, holds, both, not_false, same_word, word_same}
use Rattle.typing_laws.proofs.Listing.{distinct}
use Rattle.labelling_laws.specs.Fitting.{IsDefinedAs, places_of, FieldFits, LabelFits, FunctionFits, ObjectFits}
use Rattle.labelling_laws.proofs.Elements.{Each, each_one, each_flat, all_pass, some_one, map_at}
use Rattle.labelling_laws.proofs.Tables.{NumberWithin, all_objects}
use Rattle.labelling_laws.proofs.Under.{Between, under_within}

-- ---- how a function is defined

-- the first definition of a function's name is that of its fact
pub record DefinedFrom (place : ℕ) (is : List Item) (rest : List Signature) (f : FnFact) : Type 0 where
  pub steps : ℕ
  pub item : Item
  pub signature : Signature
  pub number : f.item ≡ place + steps
  pub stands : slice_get is steps ≡ Some item
  pub defines : defined_by item ≡ signature ∷ []
  pub named : signature.name ≡ f.name
  pub first : signature_among (flat_map defined_by is ++ rest) f.name ≡ Some signature

later : (place : ℕ) (i : Item) (is : List Item) (rest : List Signature) (f : FnFact) → DefinedFrom (suc place) is rest f
    → signature_among (flat_map defined_by (i ∷ is) ++ rest) f.name ≡ signature_among (flat_map defined_by is ++ rest) f.name → DefinedFrom place (i ∷ is) rest f
later place i is rest f h e =
    let n : f.item ≡ suc place + h.steps = h.number in
    record { steps = suc h.steps; item = h.item; signature = h.signature; number = omega arith; stands = h.stands; defines = h.defines; named = h.named; first = e ∙ h.first }

found_by : (b : Bool) (s : Signature) (o : Option Signature) → b ≡ true → (if b then Some s else o) ≡ Some s
found_by true s o e = refl
found_by false s o e = absurd cc

passed_by : (b : Bool) (s : Signature) (o : Option Signature) → (b ≡ true → ⊥) → (if b then Some s else o) ≡ o
passed_by true s o e = absurd (e refl)
passed_by false s o e = refl

defined_from : (is : List Item) (place : ℕ) (rest : List Signature) (f : FnFact) → OneOf (functions_from place is) f → Distinct (functions_from place is) → DefinedFrom place is rest f
unfolding functions_from function_facts signature_among
defined_from [] place rest f o d = absurd o
defined_from (item.Struct name members line ∷ is) place rest f o d = later place _ is rest f (defined_from is (suc place) rest f o d) refl
defined_from (item.Variables v ∷ is) place rest f o d = later place _ is rest f (defined_from is (suc place) rest f o d) refl
defined_from (item.Function is_static result name void_word params None line second ∷ is) place rest f o d = later place _ is rest f (defined_from is (suc place) rest f o d) refl
defined_from (item.Function is_static result name void_word params (Some body) line second ∷ is) place rest f (inl o) d =
    let n : f.item ≡ place = ap (λ (w : FnFact). w.item) o in
    let e : name ≡ f.name = sym (ap (λ (w : FnFact). w.name) o) in
    record {
      steps = 0;
      item = item.Function is_static result name void_word params (Some body) line second;
      signature = signature name result params;
      number = omega arith;
      stands = refl;
      defines = refl;
      named = e;
      first = found_by (bytes_eq name f.name) (signature name result params) _ (word_same name f.name e);
    }
defined_from (item.Function is_static result name void_word params (Some body) line second ∷ is) place rest f (inr o) d =
    later place _ is rest f (defined_from is (suc place) rest f o d.1)
    (passed_by (bytes_eq name f.name) (signature name result params) _ (λ e. d.0 f o (same_word name f.name e)))
defined_from (item.Cle p line ∷ is) place rest f o d = later place _ is rest f (defined_from is (suc place) rest f o d) refl

-- ---- the declaration that has the label

pub record HasMark (names : List Word) (ms : List Marked) (name : Word) (k : ℕ) : Type 0 where
  pub mark : Marked
  pub among : OneOf ms mark
  pub subject : mark.subject ≡ function name
  pub label : label_on names mark ≡ Some k

behind : (names : List Word) (m : Marked) (ms : List Marked) (name : Word) (k : ℕ) → HasMark names ms name k → HasMark names (m ∷ ms) name k
behind names m ms name k h = record { mark = h.mark; among = inr h.among; subject = h.subject; label = h.label }

mark_of : (names : List Word) (ms : List Marked) (name : Word) (k : ℕ) → label_of_function names ms name ≡ Some k → HasMark names ms name k
unfolding label_of_function
mark_of names [] name k e = absurd cc
mark_of names (m ∷ ms) name k e = by m.subject (label_on names m) refl refl e (mark_of names ms name k)
  where
    here : (other : Word) (n : ℕ) (b : Bool) → bytes_eq other name ≡ b → m.subject ≡ function other → label_on names m ≡ Some n
        → (if b then Some n else label_of_function names ms name) ≡ Some k → (label_of_function names ms name ≡ Some k → HasMark names ms name k) → HasMark names (m ∷ ms) name k
    here other n true q s l h rest =
        let p : n ≡ k = cc in
        record { mark = m; among = inl refl; subject = s ∙ ap (λ (w : Word). function w) (same_word other name q); label = l ∙ ap (λ (x : ℕ). Some x) p }
    here other n false q s l h rest = behind names m ms name k (rest h)

    by : (subject : Subject) (o : Option ℕ) → m.subject ≡ subject → label_on names m ≡ o
        → label_by name subject o (label_of_function names ms name) ≡ Some k → (label_of_function names ms name ≡ Some k → HasMark names ms name k) → HasMark names (m ∷ ms) name k
    by (objects count) o s l h rest = behind names m ms name k (rest h)
    by (function other) None s l h rest = behind names m ms name k (rest h)
    by (function other) (Some n) s l h rest = here other n (bytes_eq other name) refl s l h rest

-- ---- what the rules say of it

label_there : (labels : List LabelFact) (k : ℕ) (l : LabelFact) → label_at labels (Some k) ≡ Some l → slice_get labels k ≡ Some l
label_there [] k l e = absurd cc
label_there (x ∷ xs) zero l e = e
label_there (x ∷ xs) (suc k) l e = label_there xs k l e

-- a label with taints
pub record Tainted (labels : List LabelFact) (k : ℕ) : Type 0 where
  pub label : LabelFact
  pub there : label_at labels (Some k) ≡ Some label
  pub taints : Taints
  pub has_taints : label.taints ≡ Some taints

tainted : (labels : List LabelFact) (k : ℕ) → is_function_label (label_at labels (Some k)) ≡ true → Tainted labels k
tainted labels k e = by (label_at labels (Some k)) refl e
  where
    with_taints : (l : LabelFact) (o : Option Taints) → label_at labels (Some k) ≡ Some l → l.taints ≡ o → is_function_label (Some l) ≡ true → Tainted labels k
    with_taints l (Some t) a b h = record { label = l; there = a; taints = t; has_taints = b }
    with_taints l None a b h = let z : false ≡ true = subst (λ (w : Option Taints). is_function_label (Some (record { name = l.name; level = l.level; entries = l.entries; taints = w; line = l.line })) ≡ true) b h in absurd cc

    by : (o : Option LabelFact) → label_at labels (Some k) ≡ o → is_function_label o ≡ true → Tainted labels k
    by None a h = absurd cc
    by (Some l) a h = with_taints l l.taints a refl h

any_some : (ps : List ℕ) → any_there ps ≡ true → 1 ≤ length ps
any_some [] e = absurd cc
any_some (p ∷ ps) e = omega arith

below : (count : ℕ) (ps : List ℕ) → Each (Between 0 count) ps → Each (λ at. at < count) ps
below count [] h = tt
below count (p ∷ ps) h = let b : p < 0 + count = h.0.1 in (omega arith, below count ps h.1)

field_here : (structs : Structs) (s : Signature) (f : RedactField) → field_fits structs s f ≡ true → FieldFits structs s f
unfolding field_fits
field_here structs s f e =
    let p = both (any_there (places_of structs s f)) _ e in
    record {
      some = any_some (places_of structs s f) p.0;
      within = All-from_recursion _ _ (below (count_of (payload structs s f.reply)) (places_of structs s f) (under_within (payload structs s f.reply) f.path 0));
      fit = all_pass (λ at. fits (slice_index_or (kinds_of (payload structs s f.reply)) at I32) f.with) _ (λ at h. h) (places_of structs s f) p.1;
    }

label_is : (structs : Structs) (s : Signature) (l : LabelFact) (t : Taints) → l.taints ≡ Some t
    → label_fits structs s l ≡ ((length t.args == length s.params) && (length t.result == results (out-CType s.result)) && list_all (λ e. list_all (field_fits structs s) (redacted_by e)) l.entries)
unfolding label_fits
label_is structs s l t is = rw is refl

label_here : (structs : Structs) (s : Signature) (l : LabelFact) (t : Taints) → l.taints ≡ Some t → label_fits structs s l ≡ true → LabelFits structs s l t
unfolding label_fits
label_here structs s l t is e =
    let counts = (length t.args == length s.params) && (length t.result == results (out-CType s.result)) in
    let h : (counts && list_all (λ e. list_all (field_fits structs s) (redacted_by e)) l.entries) ≡ true = sym (label_is structs s l t is) ∙ e in
    let p = both counts (list_all (λ e. list_all (field_fits structs s) (redacted_by e)) l.entries) h in
    let q = both (length t.args == length s.params) (length t.result == results (out-CType s.result)) p.0 in
    record {
      args = eqb-true (length t.args) (length s.params) q.0;
      result = eqb-true (length t.result) (results (out-CType s.result)) q.1;
      fields = all_pass (λ e. list_all (field_fits structs s) (redacted_by e)) _ (λ e k. all_pass (field_fits structs s) (FieldFits structs s) (field_here structs s) (redacted_by e) k) l.entries p.1;
    }

subject_here : (program : Program) (labels : List LabelFact) (name : Word) (k : ℕ) (s : Signature) (l : LabelFact) → signature_of program name ≡ Some s → label_at labels (Some k) ≡ Some l
    → subject_fits program labels (function name) (Some k) ≡ true → label_fits (structs_of program.items) s l ≡ true
subject_here program labels name k s l a b e =
    let h : subject_fits program labels (function name) (Some k) ≡ label_fits (structs_of program.items) s l = rw (a, b) refl in sym h ∙ e

-- ---- a function

module _ (program : Program) (typed : Typed) (table : LabelTable) (types : IsTyped program typed) (is : IsLabelled typed table) where
  marked_fits : (name : Word) (k : ℕ) (m : Marked) → OneOf (marked_of typed.program) m → m.subject ≡ function name → label_on (label_names typed.program) m ≡ Some k
      → (is_function_label (label_at (labels_of typed.program) (Some k)) ≡ true) × (subject_fits typed.program (labels_of typed.program) (function name) (Some k) ≡ true)
  unfolding wrong_kind taints_misfit
  marked_fits name k m o s l = (
    subst (λ (w : Subject). suits (labels_of typed.program) w (Some k) ≡ true) s
        (subst (λ (w : Option ℕ). suits (labels_of typed.program) m.subject w ≡ true) l (holds _ m.line (none_in _ (marked_of typed.program) is.holds.1.1.1.1.1.1.0 m o))),
    subst (λ (w : Subject). subject_fits typed.program (labels_of typed.program) w (Some k) ≡ true) s
        (subst (λ (w : Option ℕ). subject_fits typed.program (labels_of typed.program) m.subject w ≡ true) l (holds _ m.line (none_in _ (marked_of typed.program) is.holds.1.1.1.1.1.1.1.0 m o))),
  )

  defined_so : (i : ℕ) (f : FnFact) → slice_get typed.functions i ≡ Some f → DefinedFrom 0 typed.program.items (flat_map declared_by typed.program.items) f
  unfolding functions_of
  defined_so i f a =
      let e : typed.functions ≡ functions_from 0 typed.program.items = types.functions ∙ ap functions_of (sym types.same) in
      defined_from typed.program.items 0 (flat_map declared_by typed.program.items) f
      (subst (λ (fs : List FnFact). OneOf fs f) e (some_one typed.functions i f a))
      (subst (λ (p : Program). Distinct (functions_of p)) (sym types.same) (distinct program types.holds))

  as_defined : (f : FnFact) → (d : DefinedFrom 0 typed.program.items (flat_map declared_by typed.program.items) f) → IsDefinedAs typed.program f d.signature
  as_defined f d =
      let n : f.item ≡ 0 + d.steps = d.number in
      let e : f.item ≡ d.steps = omega arith in
      (d.item, ap (λ (k : ℕ). slice_get typed.program.items k) e ∙ d.stands, d.defines, d.named)

  label_of : (i k : ℕ) (f : FnFact) → slice_get typed.functions i ≡ Some f → slice_get table.on_functions i ≡ Some (Some k)
      → label_of_function (label_names typed.program) (marked_of typed.program) f.name ≡ Some k
  unfolding on_functions
  label_of i k f a b = map_at (λ f. label_of_function (label_names typed.program) (marked_of typed.program) f.name) typed.functions i f (Some k) a
      (ap (λ (os : List (Option ℕ)). slice_get os i) (sym is.on_functions) ∙ b)

  pub functions_fit : (i k : ℕ) (f : FnFact) → slice_get typed.functions i ≡ Some f → slice_get table.on_functions i ≡ Some (Some k) → FunctionFits typed.program table f k
  unfolding signature_of
  functions_fit i k f a b =
      let m = mark_of (label_names typed.program) (marked_of typed.program) f.name k (label_of i k f a b) in
      let h = marked_fits f.name k m.mark m.among m.subject m.label in
      let t = tainted (labels_of typed.program) k h.0 in
      let d = defined_so i f a in
      record {
        signature = d.signature;
        label = t.label;
        taints = t.taints;
        defined = as_defined f d;
        listed = ap (λ (ls : List LabelFact). slice_get ls k) is.labels ∙ label_there (labels_of typed.program) k t.label t.there;
        has_taints = t.has_taints;
        fits = label_here (structs_of typed.program.items) d.signature t.label t.taints t.has_taints
            (subject_here typed.program (labels_of typed.program) f.name k d.signature t.label d.first t.there h.1);
      }

-- ---- objects

-- a label of data, or none
abbrev IsData : List LabelFact → Option ℕ → Type 0
IsData labels None = Unit {0}
IsData labels (Some k) = is_function_label (label_at labels (Some k)) ≡ false

data_by : (labels : List LabelFact) (count : ℕ) (o : Option ℕ) → suits labels (objects count) o ≡ true → IsData labels o
data_by labels count None h = tt
data_by labels count (Some k) h = not_false (is_function_label (label_at labels (Some k))) h

times_data : (labels : List LabelFact) (n : ℕ) (o : Option ℕ) → IsData labels o → Each (IsData labels) (times n (o ∷ []))
times_data labels zero o h = tt
times_data labels (suc n) o h = (h, times_data labels n o h)

mark_data : (labels : List LabelFact) (names : List Word) (subject : Subject) (line : ℕ) (words : List Word)
    → suits labels subject (label_on names (record { subject = subject; line = line; marks = words })) ≡ true → Each (IsData labels) (labels_on names (record { subject = subject; line = line; marks = words }))
mark_data labels names (objects count) line words h = times_data labels count _ (data_by labels count _ h)
mark_data labels names (function name) line words h = tt

label_known : (labels : List LabelFact) (k : ℕ) → k < length labels → (l : LabelFact) × (label_at labels (Some k) ≡ Some l)
label_known [] k h = absurd (omega arith)
label_known (l ∷ ls) zero h = (l, refl)
label_known (l ∷ ls) (suc k) h = let i : k < length ls = omega arith in label_known ls k i

no_taints : (labels : List LabelFact) (k : ℕ) (l : LabelFact) → label_at labels (Some k) ≡ Some l → is_function_label (label_at labels (Some k)) ≡ false → l.taints ≡ None
no_taints labels k l e h = by l.taints refl (ap is_function_label (sym e) ∙ h)
  where
    by : (o : Option Taints) → l.taints ≡ o → is_function_label (Some l) ≡ false → l.taints ≡ None
    by None b g = b
    by (Some t) b g = let z : is_function_label (Some l) ≡ true = rw b refl in absurd cc

module _ (typed : Typed) (table : LabelTable) (is : IsLabelled typed table) where
  all_data : Each (IsData (labels_of typed.program)) (on_objects typed.program)
  unfolding on_objects wrong_kind
  all_data = each_flat (labels_on (label_names typed.program)) (IsData (labels_of typed.program)) (marked_of typed.program) (λ m o.
      mark_data (labels_of typed.program) (label_names typed.program) m.subject m.line m.marks
      (holds _ m.line (none_in _ (marked_of typed.program) is.holds.1.1.1.1.1.1.0 m o)))

  pub objects_fit : (i k : ℕ) → slice_get table.on_objects i ≡ Some (Some k) → ObjectFits table k
  objects_fit i k e =
      let o : OneOf table.on_objects (Some k) = some_one table.on_objects i (Some k) e in
      let d : is_function_label (label_at (labels_of typed.program) (Some k)) ≡ false =
      each_one (IsData (labels_of typed.program)) (on_objects typed.program) all_data (Some k) (subst (λ (os : List (Option ℕ)). OneOf os (Some k)) is.on_objects o) in
      let n : k < length (labels_of typed.program) =
      each_one (NumberWithin typed.program is.holds) (on_objects typed.program) (all_objects typed.program is.holds) (Some k) (subst (λ (os : List (Option ℕ)). OneOf os (Some k)) is.on_objects o) in
      let l = label_known (labels_of typed.program) k n in
      record {
        label = l.0;
        listed = ap (λ (ls : List LabelFact). slice_get ls k) is.labels ∙ label_there (labels_of typed.program) k l.0 l.1;
        no_taints = no_taints (labels_of typed.program) k l.0 l.1 d;
      }
