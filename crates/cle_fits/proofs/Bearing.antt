-- The rule by declarations of functions that have a label.
use Rattle.std.proofs.Common.{◌≡◌, ℕ, suc, ◌+◌, ◌<◌, ◌≤◌, Bool, true, false, ◌&&◌, List, [], ◌∷◌, ◌++◌, drop, drop-cons, add-one, length, slice_index_or, Option, Some, None, option_map, refl, sym, ap, subst, ◌∙◌, append_assoc, Err}
use Rattle.std.specs.List.{flat_map, list_all}
use Rattle.std.proofs.lemmas.List.{append-nil, drop_all}
use Rattle.std.proofs.lemmas.Option.{none-some, same_Some}
use Rattle.cl_tree.specs.declared.tree.Program.{Program}
use Rattle.cl_tree.specs.Words.{Word}
use Rattle.cl_mean.specs.declared.labels.LabelFact.{LabelFact}
use Rattle.cl_mean.specs.declared.labels.RedactField.{RedactField}
use Rattle.cl_mean.specs.declared.labels.Taints.{Taints}
use Rattle.cl_mean.specs.Shape.{Structs, structs_of}
use Rattle.cl_mean.specs.Source.{label_at}
use Rattle.cl_typing.specs.Rules.{Lines, unless}
use Rattle.cl_labelling.specs.Fits.{Signature, defined_by, declared_by, signature_of, field_fits, label_fits, redacted_by, subject_fits, taints_misfit}
use Rattle.cl_labelling.specs.Items.{label_on, label_names}
use Rattle.cl_labelling.specs.Names.{labels_of}
use Rattle.cl_labelling.specs.Regions.{Subject, objects, function, marked_of}
use Rattle.cl_regions.proofs.Steps.{front}
use Rattle.cl_scope.specs.Finds.{Finds}
use Rattle.cl_scope.specs.declared.stop.Stop.{Stop}
use Rattle.cle_share.specs.Bearings.{Bearing, bearing_by, bearings, bearings_in, bearings_of}
use Rattle.cle_share.specs.Signatures.{Parts, parts_of, known}
use Rattle.cle_share.specs.declared.bearings.Bearing as code
use Rattle.cle_fits.specs.Leaves.{misfit_at, misfits, nameless}

-- ---- a function's name doesn't matter

all_same : {X : Type 0} (p q : X → Bool) → ((x : X) → p x ≡ q x) → (xs : List X) → list_all p xs ≡ list_all q xs
all_same p q e [] = refl
all_same p q e (x ∷ xs) = ap (λ (b : Bool). b && list_all p xs) (e x) ∙ ap (λ (b : Bool). q x && b) (all_same p q e xs)

module _ (structs : Structs) (s : Signature) where
  field_same : (f : RedactField) → field_fits structs s f ≡ field_fits structs (nameless s.result s.params) f
  unfolding field_fits
  field_same f = by f.reply refl
    where
      by : (way : Bool) → f.reply ≡ way → field_fits structs s f ≡ field_fits structs (nameless s.result s.params) f
      by false e = rw e refl
      by true e = rw e refl

  pub label_same : (l : LabelFact) → label_fits structs (nameless s.result s.params) l ≡ label_fits structs s l
  unfolding label_fits
  label_same l = by l.taints refl (all_same _ _ (λ e. all_same _ _ (λ f. sym (field_same f)) (redacted_by e)) l.entries)
    where
      by : (t : Option Taints) → l.taints ≡ t
          → list_all (λ e. list_all (field_fits structs (nameless s.result s.params)) (redacted_by e)) l.entries ≡ list_all (λ e. list_all (field_fits structs s) (redacted_by e)) l.entries
          → label_fits structs (nameless s.result s.params) l ≡ label_fits structs s l
      by None e same = rw e refl
      by (Some t) e same = rw (e, same) refl

-- ---- one declaration

some_parts : (o : Option Signature) (p : Parts) → Some p ≡ option_map parts_of o → (s : Signature) × ((o ≡ Some s) × (p ≡ parts_of s))
some_parts None p e = absurd (none-some p (sym e))
some_parts (Some s) p e = (s, (refl, same_Some p (parts_of s) e))

none_parts : (o : Option Signature) → None ≡ option_map parts_of o → o ≡ None
none_parts None e = refl
none_parts (Some s) e = absurd (none-some (parts_of s) e)

module _ (program : Program) (labels : List LabelFact) (name : Word) (k : ℕ) where
  pub no_label : label_at labels (Some k) ≡ None → true ≡ subject_fits program labels (function name) (Some k)
  no_label e = by (signature_of program name) refl
    where
      by : (s : Option Signature) → signature_of program name ≡ s → true ≡ subject_fits program labels (function name) (Some k)
      by None is = rw is refl
      by (Some s) is = rw (is, e) refl

  pub no_signature : None ≡ known (flat_map defined_by program.items ++ flat_map declared_by program.items) name → true ≡ subject_fits program labels (function name) (Some k)
  unfolding known signature_of
  no_signature e = rw (none_parts (signature_of program name) e) refl

  pub both_there : (l : LabelFact) (p : Parts) → label_at labels (Some k) ≡ Some l
      → Some p ≡ known (flat_map defined_by program.items ++ flat_map declared_by program.items) name
      → label_fits (structs_of program.items) (nameless p.result p.params) l ≡ subject_fits program labels (function name) (Some k)
  unfolding known signature_of
  both_there l p here e =
      let found : (s : Signature) × ((signature_of program name ≡ Some s) × (p ≡ parts_of s)) = some_parts (signature_of program name) p e in
      rw (found.1.0, here)
      (ap (λ (q : Parts). label_fits (structs_of program.items) (nameless q.result q.params) l) found.1.1 ∙ label_same (structs_of program.items) found.0 l)

-- ---- the declarations in order

abbrev pub seen : code.Bearing → Bearing
seen b = record { function = b.function.now; label = b.label; line = b.line }

next : (f : Bearing → Lines) (all : List code.Bearing) (i : ℕ) (b : code.Bearing) → i < length all → b ≡ slice_index_or all i b
    → flat_map f (bearings (drop i all)) ≡ f (seen b) ++ flat_map f (bearings (drop (i + 1) all))
next f all i b within is = rw (add-one i) (ap (λ (xs : List code.Bearing). flat_map f (bearings xs)) (drop-cons all i b within ∙ ap (λ (x : code.Bearing). x ∷ drop (suc i) all) (sym is)))

pub holds : (f : Bearing → Lines) (all : List code.Bearing) (i : ℕ) (b : code.Bearing) (whole : Lines) → i < length all → b ≡ slice_index_or all i b
    → f (seen b) ≡ [] → flat_map f (bearings (drop i all)) ≡ whole → flat_map f (bearings (drop (i + 1) all)) ≡ whole
holds f all i b whole within is fine rest =
    ap (λ (ls : Lines). ls ++ flat_map f (bearings (drop (i + 1) all))) (sym fine) ∙ sym (next f all i b within is) ∙ rest

pub fails : (f : Bearing → Lines) (all : List code.Bearing) (i : ℕ) (b : code.Bearing) (t : Bool) (stop : Stop) (whole : Lines) → i < length all → b ≡ slice_index_or all i b
    → f (seen b) ≡ unless t b.line → Finds (Err stop) (unless t b.line) → flat_map f (bearings (drop i all)) ≡ whole → Finds (Err stop) whole
fails f all i b t stop whole within is e found rest =
    subst (λ (ls : Lines). Finds (Err stop) ls) (sym (next f all i b within is ∙ ap (λ (ls : Lines). ls ++ flat_map f (bearings (drop (i + 1) all))) e) ∙ rest)
    (front stop t b.line b.line (flat_map f (bearings (drop (i + 1) all))) refl found)

pub ends : (f : Bearing → Lines) (all : List code.Bearing) (i : ℕ) (whole : Lines) → length all ≤ i → flat_map f (bearings (drop i all)) ≡ whole → whole ≡ []
ends f all i whole past rest = sym rest ∙ ap (λ (xs : List code.Bearing). flat_map f (bearings xs)) (drop_all i all past)

-- ---- the rule

flat_append : {X A : Type 0} (f : X → List A) (xs ys : List X) → flat_map f (xs ++ ys) ≡ flat_map f xs ++ flat_map f ys
flat_append f [] ys = refl
flat_append f (x ∷ xs) ys = ap (λ (as' : List _). f x ++ as') (flat_append f xs ys) ∙ sym (append_assoc (f x) (flat_map f xs) (flat_map f ys))

flat_flat : {X Y A : Type 0} (h : X → List A) (f : Y → List A) (g : X → List Y) → ((x : X) → h x ≡ flat_map f (g x)) → (xs : List X) → flat_map h xs ≡ flat_map f (flat_map g xs)
flat_flat h f g e [] = refl
flat_flat h f g e (x ∷ xs) =
    ap (λ (ys : List _). ys ++ flat_map h xs) (e x) ∙ ap (λ (ys : List _). flat_map f (g x) ++ ys) (flat_flat h f g e xs) ∙ sym (flat_append f (g x) (flat_map g xs))

module _ (program : Program) (labels : List LabelFact) where
  by_label : (subject : Subject) (line : ℕ) (k : Option ℕ) → unless (subject_fits program labels subject k) line ≡ flat_map (misfit_at program labels) (bearing_by line subject k)
  by_label (objects count) line None = refl
  by_label (objects count) line (Some k) = refl
  by_label (function name) line None = by (signature_of program name) refl
    where
      by : (s : Option Signature) → signature_of program name ≡ s → unless (subject_fits program labels (function name) None) line ≡ []
      by None is = rw is refl
      by (Some s) is = rw is refl
  by_label (function name) line (Some k) = sym (append-nil (unless (subject_fits program labels (function name) (Some k)) line))

pub rule_is : (program : Program) (labels : List LabelFact) (bs : List Bearing) → labels ≡ labels_of program → bs ≡ bearings_of program → misfits program labels bs ≡ taints_misfit program
unfolding misfits taints_misfit bearings_in
rule_is program labels bs l b =
    ap (λ (ls : List LabelFact). misfits program ls bs) l ∙ ap (misfits program (labels_of program)) b
    ∙ sym (flat_flat _ (misfit_at program (labels_of program)) _ (λ m. by_label program (labels_of program) m.subject m.line (label_on (label_names program) m)) (marked_of program))
