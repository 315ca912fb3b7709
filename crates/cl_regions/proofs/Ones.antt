-- Items with two labels, one item further.
use Rattle.std.proofs.Common.{◌≡◌, ℕ, zero, suc, ◌<◌, ◌≤◌, ◌+◌, List, [], ◌∷◌, ◌++◌, length, drop, get_or, add-one, refl, sym, ap, ◌∙◌, subst, arith, Bool, true, false, ◌&&◌, nat_le, Option, Some, None, bytes_eq, if◌then◌else◌, Err}
use Rattle.std.proofs.lemmas.List.{length-map}
use Rattle.std.proofs.lemmas.Bool.Decides.{nat_tests}
use Rattle.std.specs.List.{list_all}
use Rattle.cl_tree.specs.Words.{Word}
use Rattle.cl_typing.specs.Rules.{Lines, unless}
use Rattle.cl_labelling.specs.Regions.{Subject, objects, function, Marked, marked}
use Rattle.cl_labelling.specs.Items.{agrees, is_one, two_labels}
use Rattle.cl_scope.proofs.Places.{same_name}
use Rattle.cl_scope.specs.Finds.{Finds}
use Rattle.cl_scope.specs.declared.stop.Stop.{Stop}
use Rattle.cl_regions.proofs.Steps.{front}
use Rattle.cl_regions.specs.Few.{Few, none, one, many, few, few_of}
use Rattle.cl_regions.specs.Roles.{subject_of}
use Rattle.cl_regions.specs.Marks.{Kept, kept, all_kept, kept_one, kept_all}
use Rattle.cl_regions.specs.Chosen.{chosen_at, fits, one_by, chosen_after, known, first_fits, AreOne}
use Rattle.cl_regions.specs.declared.marks.Marked as code
use Rattle.cl_regions.specs.declared.twice.Chosen.{Chosen}
use Rattle.cl_regions.proofs.Aheads.{drop_past}

-- ---- the definition's item as the code's

pub one_is : (subject : Subject) (line : ℕ) (marks : List Word) (before : List Marked)
    → ((name : Word) (vs : List Word) → list_all (agrees name vs) before ≡ first_fits (known before name) vs)
    → is_one before (marked subject line marks) ≡ one_by (few marks) subject (known before)
one_is (objects count) line [] before f = refl
one_is (objects count) line (w ∷ []) before f = refl
one_is (objects count) line (w ∷ v ∷ ws) before f =
    let e : nat_le (length (w ∷ v ∷ ws)) 1 ≡ false = grind (arith, nat_tests) in ap (λ (b : Bool). b && true) e
one_is (function name) line [] before f = f name []
one_is (function name) line (w ∷ []) before f = f name (w ∷ [])
one_is (function name) line (w ∷ v ∷ ws) before f =
    let e : nat_le (length (w ∷ v ∷ ws)) 1 ≡ false = grind (arith, nat_tests) in
    ap (λ (b : Bool). b && list_all (agrees name (w ∷ v ∷ ws)) before) e

-- ---- one item further

second_true : (a b : Bool) → (a && b) ≡ true → b ≡ true
second_true true b h = h
second_true false b h = absurd (cc)

either_true : (b l r : Bool) → l ≡ r → ((if b then true else true) && l) ≡ r
either_true true l r e = e
either_true false l r e = e

with_true : (b : Bool) → (b && true) ≡ b
with_true true = refl
with_true false = refl

with_itself : (b : Bool) → (b && b) ≡ b
with_itself true = refl
with_itself false = refl

-- what agrees with the new label agrees with the one before, where these agree
held_case : (held : Option Word) (v w : Word) → fits held v ≡ true → (bytes_eq v w && fits held w) ≡ bytes_eq v w
held_case None v w h = with_true (bytes_eq v w)
held_case (Some u) v w h =
    ap (λ (x : Word). bytes_eq v w && bytes_eq x w) (same_name u v h) ∙ with_itself (bytes_eq v w)

step_case : (b : Bool) (v w : Word) (l : Bool) (held : Option Word) → (b ≡ true → fits held v ≡ true)
    → l ≡ fits held w → ((if b then bytes_eq v w else true) && l) ≡ fits (if b then Some v else held) w
step_case true v w l held g e = ap (λ (x : Bool). bytes_eq v w && x) e ∙ held_case held v w (g refl)
step_case false v w l held g e = e

-- the new item among those before
agree_next : (subject : Subject) (line : ℕ) (marks : List Word) (before : List Marked) (q : Word) (ws : List Word)
    → ((name : Word) (vs : List Word) → list_all (agrees name vs) before ≡ first_fits (known before name) vs)
    → is_one before (marked subject line marks) ≡ true
    → list_all (agrees q ws) (marked subject line marks ∷ before)
    ≡ first_fits (known (marked subject line marks ∷ before) q) ws
unfolding known
agree_next (objects count) line marks before q ws f h = f q ws
agree_next (function other) line [] before q ws f h =
    either_true (bytes_eq other q) (list_all (agrees q ws) before) (first_fits (known before q) ws) (f q ws)
agree_next (function other) line (v ∷ vs) before q [] f h =
    either_true (bytes_eq other q) (list_all (agrees q []) before) true (f q [])
agree_next (function other) line (v ∷ vs) before q (w ∷ ws) f h =
    step_case (bytes_eq other q) v w (list_all (agrees q (w ∷ ws)) before) (known before q)
    (λ g. subst (λ (x : Word). fits (known before x) v ≡ true) (same_name other q g)
    (sym (f other (v ∷ vs)) ∙ second_true (nat_le (length (v ∷ vs)) 1) (list_all (agrees other (v ∷ vs)) before) h))
    (f q (w ∷ ws))

known_after : (subject : Subject) (line : ℕ) (marks : List Word) (before : List Marked) (q : Word)
    → ((name : Word) (vs : List Word) → list_all (agrees name vs) before ≡ first_fits (known before name) vs)
    → is_one before (marked subject line marks) ≡ true
    → chosen_after (few marks) subject (known before) q ≡ known (marked subject line marks ∷ before) q
unfolding known
known_after (objects count) line [] before q f h = refl
known_after (objects count) line (w ∷ []) before q f h = refl
known_after (objects count) line (w ∷ v ∷ ws) before q f h = refl
known_after (function name) line [] before q f h = refl
known_after (function name) line (w ∷ []) before q f h = refl
known_after (function name) line (w ∷ v ∷ ws) before q f h =
    let k : false ≡ true = sym (one_is (function name) line (w ∷ v ∷ ws) before f) ∙ h in absurd (cc)

same_one : (l : Few) (s : Subject) (f g : Word → Option Word) → ((q : Word) → f q ≡ g q)
    → one_by l s f ≡ one_by l s g
same_one none s f g e = refl
same_one (one label) (objects count) f g e = refl
same_one (one label) (function name) f g e = ap (λ (held : Option Word). fits held label) (e name)
same_one many s f g e = refl

same_after : (l : Few) (s : Subject) (f g : Word → Option Word) (q : Word) → f q ≡ g q
    → chosen_after l s f q ≡ chosen_after l s g q
same_after none s f g q e = e
same_after (one label) (objects count) f g q e = e
same_after (one label) (function name) f g q e =
    ap (λ (held : Option Word). if bytes_eq name q then Some label else held) e
same_after many s f g q e = e

-- the item at a place
pub item_at : (all : List Marked) (ks : List code.Marked) (m : code.Marked) (i : ℕ) → kept_all ks ≡ all_kept all
    → i < length ks → m ≡ get_or ks i m
    → (r : Marked) × (drop i all ≡ r ∷ drop (suc i) all) × (kept r ≡ kept_one m)
item_at all [] m i e h is = absurd (omega arith)
item_at [] (k ∷ ks) m i e h is = absurd (cc)
item_at (a ∷ all) (k ∷ ks) m zero e h is =
    let f : kept_one k ≡ kept a = cc in (a, refl, sym f ∙ ap kept_one (sym is))
item_at (a ∷ all) (k ∷ ks) m (suc i) e h is =
    let f : kept_all ks ≡ all_kept all = cc in
    let n = item_at all ks m i f (omega arith) is in (n.0, n.1, n.2)

one_at : (before : List Marked) (chosen : Chosen) (r : Marked) (m : code.Marked) → kept r ≡ kept_one m
    → ((name : Word) → chosen_at chosen name ≡ known before name)
    → ((name : Word) (vs : List Word) → list_all (agrees name vs) before ≡ first_fits (known before name) vs)
    → is_one before r ≡ one_by (few_of m.labels) (subject_of m.subject) (chosen_at chosen)
one_at before chosen r m k u f =
    one_is r.subject r.line r.marks before f
    ∙ same_one (few r.marks) r.subject (known before) (chosen_at chosen) (λ q. sym (u q))
    ∙ ap (λ (x : Kept). one_by x.labels x.subject (chosen_at chosen)) k

unless_true : (b : Bool) (line : ℕ) → unless b line ≡ [] → b ≡ true
unless_true true line h = refl
unless_true false line h = absurd (cc)

pub one_next : (chosen new : Chosen) (all : List Marked) (ks : List code.Marked) (m : code.Marked) (i : ℕ) (b : Bool)
    → AreOne chosen all i → kept_all ks ≡ all_kept all → i < length ks → m ≡ get_or ks i m
    → b ≡ one_by (few_of m.labels) (subject_of m.subject) (chosen_at chosen) → unless b m.line ≡ []
    → ((q : Word) → chosen_at new q ≡ chosen_after (few_of m.labels) (subject_of m.subject) (chosen_at chosen) q)
    → AreOne new all (i + 1)
unfolding two_labels
one_next chosen new all ks m i b so e h is o n u =
    let it = item_at all ks m i e h is in
    let r = it.0 in
    let t : is_one so.before r ≡ true =
    one_at so.before chosen r m it.2 so.each so.agree ∙ sym o ∙ unless_true b m.line n in
    let l : unless (is_one so.before r) r.line ++ two_labels (r ∷ so.before) (drop (suc i) all) ≡ two_labels [] all =
    subst (λ (xs : List Marked). two_labels so.before xs ≡ two_labels [] all) it.1 so.rest in
    rw add-one (record {
      before = r ∷ so.before;
      each = λ q. u q
          ∙ ap (λ (x : Kept). chosen_after x.labels x.subject (chosen_at chosen) q) (sym it.2)
          ∙ same_after (few r.marks) r.subject (chosen_at chosen) (known so.before) q (so.each q)
          ∙ known_after r.subject r.line r.marks so.before q so.agree t;
      agree = λ q ws. agree_next r.subject r.line r.marks so.before q ws so.agree t;
      rest = subst (λ (x : Bool). unless x r.line ++ two_labels (r ∷ so.before) (drop (suc i) all) ≡ two_labels [] all) t l;
    })

pub one_fails : (chosen : Chosen) (all : List Marked) (ks : List code.Marked) (m : code.Marked) (i : ℕ) (b : Bool)
    (e : Stop) → AreOne chosen all i → kept_all ks ≡ all_kept all → i < length ks → m ≡ get_or ks i m
    → b ≡ one_by (few_of m.labels) (subject_of m.subject) (chosen_at chosen) → Finds (Err e) (unless b m.line)
    → Finds (Err e) (two_labels [] all)
unfolding two_labels
one_fails chosen all ks m i b e so k h is o n =
    let it = item_at all ks m i k h is in
    let r = it.0 in
    let t : b ≡ is_one so.before r = o ∙ sym (one_at so.before chosen r m it.2 so.each so.agree) in
    let l : unless (is_one so.before r) r.line ++ two_labels (r ∷ so.before) (drop (suc i) all) ≡ two_labels [] all =
    subst (λ (xs : List Marked). two_labels so.before xs ≡ two_labels [] all) it.1 so.rest in
    subst (λ (ls : Lines). Finds (Err e) ls) l
    (front e (is_one so.before r) m.line r.line (two_labels (r ∷ so.before) (drop (suc i) all))
    (ap (λ (x : Kept). x.line) it.2)
    (subst (λ (x : Bool). Finds (Err e) (unless x m.line)) t n))

pub one_end : (chosen : Chosen) (all : List Marked) (ks : List code.Marked) (i : ℕ) → AreOne chosen all i
    → kept_all ks ≡ all_kept all → length ks ≤ i → two_labels [] all ≡ []
unfolding two_labels
one_end chosen all ks i so e h =
    let n : length ks ≡ length all = sym (length-map ks kept_one) ∙ ap length e ∙ length-map all kept in
    sym so.rest ∙ ap (two_labels so.before) (drop_past all i (omega arith))

pub one_start : (chosen : Chosen) (all : List Marked) → ((q : Word) → chosen_at chosen q ≡ None) → AreOne chosen all 0
unfolding known
one_start chosen all e = record { before = []; each = e; agree = λ name ws. none_before ws; rest = refl }
  where
    none_before : (ws : List Word) → true ≡ first_fits None ws
    none_before [] = refl
    none_before (w ∷ ws) = refl
