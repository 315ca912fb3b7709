-- Labels by the numbers of items, and by the items of the definitions.
use Rattle.std.proofs.Common.{◌≡◌, ℕ, suc, ◌+◌, ◌-◌, ◌<◌, ◌≤◌, nat_le, Bool, true, false, ◌&&◌, List, [], ◌∷◌, ◌++◌, map, drop, drop-cons, add-one, length, slice_index_or, Option, Some, None, option_map, bytes_eq, if◌then◌else◌, refl, sym, ap, ◌∙◌, arith, append_assoc}
use Rattle.std.specs.List.{flat_map}
use Rattle.std.proofs.lemmas.Bool.{false≢true, leb-true}
use Rattle.std.proofs.lemmas.List.{drop_all}
use Rattle.cl_tree.specs.declared.tree.Program.{Program}
use Rattle.cl_tree.specs.Words.{Word}
use Rattle.cl_mean.specs.declared.checked.FnFact.{FnFact}
use Rattle.cl_mean.specs.Shape.{times}
use Rattle.cl_typing.specs.Rules.{Lines, unless}
use Rattle.cl_labelling.specs.Names.{labels_of, number_of}
use Rattle.cl_labelling.specs.Regions.{Subject, objects, function, Marked, marked_of}
use Rattle.cl_labelling.specs.Items.{first_of, is_one, label_by, label_names, label_of_function, label_on, labels_on, two_labels, wrong_kind, on_objects, on_functions}
use Rattle.cl_regions.specs.Few.{few}
use Rattle.cl_regions.specs.Marks.{all_kept}
use Rattle.cle_share.specs.Bearings.{bearing_by, bearings_in, bearings_of}
use Rattle.cle_items.specs.Numbered.{Numbered, number_by, number_kept, numbered, numbered_by, numbers_of, wrong_kinds, kind_at, bearers, labels_by, object_labels, function_label, or_first}
use Rattle.cle_items.specs.declared.numbers.Numbered as code
use Rattle.cle_items.proofs.Steps.{seen}

-- ---- repeated labels

pub one_more_time : {A : Type 0} (old : List A) (n k : ℕ) (x : A) → k < n → (old ++ x ∷ []) ++ times (n - (k + 1)) (x ∷ []) ≡ old ++ times (n - k) (x ∷ [])
one_more_time old n k x within =
    let e : n - k ≡ suc (n - (k + 1)) = omega arith in
    rw e (append_assoc old (x ∷ []) (times (n - (k + 1)) (x ∷ [])))

-- ---- the labels of functions

by_first : (q : Word) (s : Subject) (label rest : Option ℕ) → label_by q s label rest ≡ or_first (label_by q s label None) rest
by_first q (objects count) None rest = refl
by_first q (objects count) (Some k) rest = refl
by_first q (function name) None rest = refl
by_first q (function name) (Some k) rest = by (bytes_eq name q)
  where
    by : (b : Bool) → (if b then Some k else rest) ≡ or_first (if b then Some k else None) rest
    by true = refl
    by false = refl

first_assoc : (a b c : Option ℕ) → or_first (or_first a b) c ≡ or_first a (or_first b c)
first_assoc None b c = refl
first_assoc (Some k) b c = refl

pub chosen_next : (all : List code.Numbered) (i : ℕ) (n : code.Numbered) (q : Word) (old new : Option ℕ) → i < length all → n ≡ slice_index_or all i n
    → new ≡ or_first old (label_by q (seen n).subject n.label None)
    → or_first new (function_label (numbered (drop (i + 1) all)) q) ≡ or_first old (function_label (numbered (drop i all)) q)
unfolding function_label
chosen_next all i n q old new within is e =
    let here : drop i all ≡ n ∷ drop (suc i) all = drop-cons all i n within ∙ ap (λ (x : code.Numbered). x ∷ drop (suc i) all) (sym is) in
    rw (add-one i, here, e)
    (first_assoc old (label_by q (seen n).subject n.label None) (function_label (numbered (drop (suc i) all)) q)
    ∙ ap (or_first old) (sym (by_first q (seen n).subject n.label (function_label (numbered (drop (suc i) all)) q))))

or_none : (a : Option ℕ) → or_first a None ≡ a
or_none None = refl
or_none (Some k) = refl

pub chosen_end : (all : List code.Numbered) (i : ℕ) (q : Word) (held : Option ℕ) → length all ≤ i → held ≡ or_first held (function_label (numbered (drop i all)) q)
unfolding function_label
chosen_end all i q held past = rw (drop_all i all past) (sym (or_none held))

-- ---- what is kept of items, where none has two labels

and_left : (a b : Bool) → (a && b) ≡ true → a ≡ true
and_left true b e = refl
and_left false b e = e

unless_true : (b : Bool) (line : ℕ) (rest : Lines) → unless b line ++ rest ≡ [] → (b ≡ true) × (rest ≡ [])
unless_true true line rest e = (refl, e)
unless_true false line rest e = absurd (false≢true (ap is_empty e))
  where
    is_empty : Lines → Bool
    is_empty [] = true
    is_empty (l ∷ ls) = false

number_is : (names : List Word) (ms : List Word) → nat_le (length ms) 1 ≡ true → number_by names (few ms) ≡ option_map (number_of names) (first_of ms)
number_is names [] e = refl
number_is names (w ∷ []) e = refl
number_is names (w ∷ v ∷ ws) e = let h : suc (suc (length ws)) ≤ 1 = leb-true (suc (suc (length ws))) 1 e in absurd (omega arith)

pub numbers_are : (names : List Word) (before all : List Marked) → two_labels before all ≡ [] → map (number_kept names) (all_kept all) ≡ map (numbered_by names) all
unfolding two_labels
numbers_are names before [] e = refl
numbers_are names before (m ∷ ms) e =
    let h : (is_one before m ≡ true) × (two_labels (m ∷ before) ms ≡ []) = unless_true (is_one before m) m.line (two_labels (m ∷ before) ms) e in
    ap (λ (label : Option ℕ). record { subject = m.subject; line = m.line; label = label } ∷ map (number_kept names) (all_kept ms)) (number_is names m.marks (and_left _ _ h.0))
    ∙ ap (λ (ns : List Numbered). numbered_by names m ∷ ns) (numbers_are names (m ∷ before) ms h.1)

-- ---- the definitions by numbers

fused : {X Y A : Type 0} (f : Y → List A) (g : X → Y) (h : X → List A) → ((x : X) → h x ≡ f (g x)) → (xs : List X) → flat_map h xs ≡ flat_map f (map g xs)
fused f g h e [] = refl
fused f g h e (x ∷ xs) = ap (λ (ys : List _). ys ++ flat_map h xs) (e x) ∙ ap (λ (ys : List _). f (g x) ++ ys) (fused f g h e xs)

pub kinds_are : (program : Program) → wrong_kind program ≡ wrong_kinds (labels_of program) (numbers_of program)
unfolding wrong_kind wrong_kinds
kinds_are program = fused (kind_at (labels_of program)) (numbered_by (label_names program)) _ (λ m. refl) (marked_of program)

labels_are : (names : List Word) (m : Marked) → labels_on names m ≡ labels_by m.subject (label_on names m)
labels_are names m = by m.subject refl
  where
    by : (s : Subject) → m.subject ≡ s → labels_on names m ≡ labels_by m.subject (label_on names m)
    by (objects count) e = rw e refl
    by (function name) e = rw e refl

pub objects_are : (program : Program) → on_objects program ≡ object_labels (numbers_of program)
unfolding on_objects object_labels
objects_are program = fused (λ n. labels_by n.subject n.label) (numbered_by (label_names program)) (labels_on (label_names program)) (labels_are (label_names program)) (marked_of program)

function_is : (names : List Word) (ms : List Marked) (name : Word) → label_of_function names ms name ≡ function_label (map (numbered_by names) ms) name
unfolding label_of_function function_label
function_is names [] name = refl
function_is names (m ∷ ms) name = ap (label_by name m.subject (label_on names m)) (function_is names ms name)

pub functions_are : (program : Program) (facts : List FnFact) → on_functions program facts ≡ map (λ f. function_label (numbers_of program) f.name) facts
unfolding on_functions
functions_are program [] = refl
functions_are program (f ∷ fs) =
    ap (λ (k : Option ℕ). k ∷ on_functions program fs) (function_is (label_names program) (marked_of program) f.name)
    ∙ ap (λ (ks : List (Option ℕ)). function_label (numbers_of program) f.name ∷ ks) (functions_are program fs)

pub bearers_are : (program : Program) → bearings_of program ≡ bearers (numbers_of program)
unfolding bearings_in bearers
bearers_are program = fused (λ n. bearing_by n.line n.subject n.label) (numbered_by (label_names program)) _ (λ m. refl) (marked_of program)
