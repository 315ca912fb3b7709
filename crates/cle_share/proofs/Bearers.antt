-- The rule by declarations of functions that have a label.
use Rattle.std.proofs.Common.{◌≡◌, ◌⊎◌, inl, inr, ℕ, zero, suc, ◌==◌, ◌≢◌, Bool, true, false, ◌&&◌, List, [], ◌∷◌, ◌++◌, drop, Option, Some, None, option_map, slice_get, map, refl, sym, ap, ◌∙◌, if◌then◌else◌}
use Rattle.std.specs.List.{flat_map, list_all}
use Rattle.std.proofs.lemmas.List.Folds.{list_all-append}
use Rattle.std.proofs.lemmas.Bool.{false≢true}
use Rattle.std.proofs.lemmas.Bool.Decides.{eqb_tells}
use Rattle.cl_tree.specs.Words.{Word}
use Rattle.cl_tree.specs.declared.tree.Program.{Program}
use Rattle.cl_mean.specs.declared.labels.LabelFact.{LabelFact}
use Rattle.cl_mean.specs.declared.labels.Taints.{Taints}
use Rattle.cl_mean.specs.Source.{label_at}
use Rattle.cl_typing.specs.Rules.{Lines, unless}
use Rattle.cl_labelling.specs.Names.{labels_of}
use Rattle.cl_labelling.specs.Regions.{Subject, objects, function, marked_of}
use Rattle.cl_labelling.specs.Items.{label_on, label_names}
use Rattle.cl_labelling.specs.Fits.{Signature, defined_by, declared_by, signature_of}
use Rattle.cl_labelling.specs.Shareable.{all_shareable, shareable_back, lent, borne_by, maybe_one, bearers, is_shared, unshared_from, not_shareable}
use Rattle.cle_share.specs.Signatures.{Parts, parts_of, known as first}
use Rattle.cle_share.specs.Bearings.{Bearing, Known, all_backs, backs, bearing_by, bearings_in, bearings_of, lends_by, lends_for, all_lend, shared_by, unshared_by}
use Rattle.cle_share.proofs.Returned.{lent_back, row_at}

and_true : (b : Bool) → (b && true) ≡ b
and_true true = refl
and_true false = refl

and_assoc : (a b c d : Bool) → ((a && (b && c)) && d) ≡ (((a && b) && c) && d)
and_assoc true b c d = refl
and_assoc false b c d = refl

all_flat : {X Y Z : Type 0} (p : Y → Bool) (q : Z → Bool) (f : X → List Y) (g : X → List Z) → ((x : X) → list_all p (f x) ≡ list_all q (g x))
    → (xs : List X) → list_all p (flat_map f xs) ≡ list_all q (flat_map g xs)
all_flat p q f g e [] = refl
all_flat p q f g e (x ∷ xs) =
    list_all-append p (f x) (flat_map f xs) ∙ ap (λ (b : Bool). b && list_all p (flat_map f xs)) (e x)
    ∙ ap (λ (b : Bool). list_all q (g x) && b) (all_flat p q f g e xs) ∙ sym (list_all-append q (g x) (flat_map g xs))

nothing_there : (l : LabelFact) (ls : List LabelFact) → [] ≡ l ∷ ls → ⊥
nothing_there l ls e = false≢true (ap is_some_there e)
  where
    is_some_there : List LabelFact → Bool
    is_some_there [] = false
    is_some_there (y ∷ ys) = true

at_drop : (labels : List LabelFact) (k : ℕ) (l : LabelFact) (ls : List LabelFact) → drop k labels ≡ l ∷ ls → label_at labels (Some k) ≡ Some l
at_drop [] zero l ls e = absurd (nothing_there l ls e)
at_drop [] (suc k) l ls e = absurd (nothing_there l ls e)
at_drop (x ∷ xs) zero l ls e = ap first_of e
  where
    first_of : List LabelFact → Option LabelFact
    first_of [] = None
    first_of (y ∷ ys) = Some y
at_drop (x ∷ xs) (suc k) l ls e = at_drop xs k l ls e

past_drop : (labels : List LabelFact) (k : ℕ) (l : LabelFact) (ls : List LabelFact) → drop k labels ≡ l ∷ ls → drop (suc k) labels ≡ ls
past_drop [] zero l ls e = absurd (nothing_there l ls e)
past_drop [] (suc k) l ls e = absurd (nothing_there l ls e)
past_drop (x ∷ xs) zero l ls e = ap (drop 1) e
past_drop (x ∷ xs) (suc k) l ls e = past_drop xs k l ls e

-- signatures that are noted in the same way
all_same : (rows : List (List Bool)) (noted other : Known) (k : ℕ) → ((name : Word) → noted name ≡ other name) → (bs : List Bearing) → all_lend rows noted k bs ≡ all_lend rows other k bs
all_same rows noted other k same [] = refl
all_same rows noted other k same (b ∷ bs) =
    ap (λ (p : Option Parts). (if b.label == k then lends_by (slice_get rows b.label) p else true) && all_lend rows noted k bs) (same b.function)
    ∙ ap (λ (x : Bool). lends_for rows other k b && x) (all_same rows noted other k same bs)

module _ (program : Program) (labels : List LabelFact) where
  abbrev pub known : Known
  known name = option_map parts_of (signature_of program name)

  module _ (k : ℕ) (label : LabelFact) (taints : Taints) (here : label_at labels (Some k) ≡ Some label) (its : label.taints ≡ Some taints) where
    abbrev fine : Signature → Bool
    fine s = shareable_back labels label (lent taints.args s.params)

    its_row : slice_get (all_backs labels) k ≡ Some (map (λ m. shareable_back labels label m.all) taints.args)
    its_row = rw (row_at (backs labels) labels k label here, its) refl

    one : (s : Option Signature) → list_all fine (maybe_one s) ≡ lends_by (Some (map (λ m. shareable_back labels label m.all) taints.args)) (option_map parts_of s)
    one None = refl
    one (Some s) = and_true (fine s) ∙ sym (lent_back labels label taints.args s.params)

    borne : (subject : Subject) (line : ℕ) (j : Option ℕ) → list_all fine (borne_by program k subject j) ≡ list_all (lends_for (all_backs labels) known k) (bearing_by line subject j)
    borne (objects count) line None = refl
    borne (objects count) line (Some j) = refl
    borne (function name) line None = refl
    borne (function name) line (Some j) = by (eqb_tells j k)
      where
        by : ((j == k) ≡ true) × (j ≡ k) ⊎ ((j == k) ≡ false) × (j ≢ k)
            → list_all fine (borne_by program k (function name) (Some j)) ≡ list_all (lends_for (all_backs labels) known k) (bearing_by line (function name) (Some j))
        by (inl h) =
            rw (h.0, h.1, its_row) (one (signature_of program name) ∙ sym (and_true (lends_by (Some (map (λ m. shareable_back labels label m.all) taints.args)) (known name))))
        by (inr h) = rw h.0 refl

    pub lending_is : list_all fine (bearers program k) ≡ all_lend (all_backs labels) known k (bearings_of program)
    unfolding bearings_in
    lending_is = all_flat fine (lends_for (all_backs labels) known k) _ _ (λ m. borne m.subject m.line (label_on (label_names program) m)) (marked_of program)

  pub shared_is : (k : ℕ) (label : LabelFact) (lending : Bool) → label_at labels (Some k) ≡ Some label → lending ≡ all_lend (all_backs labels) known k (bearings_of program)
      → shared_by labels label lending ≡ is_shared program labels k label
  unfolding shared_by is_shared
  shared_is k label lending here is = by label.taints refl
    where
      by : (t : Option Taints) → label.taints ≡ t → shared_by labels label lending ≡ is_shared program labels k label
      by None e = rw e refl
      by (Some t) e =
          rw (e, is, sym (lending_is k label t here e))
          (and_assoc (list_all (λ m. all_shareable labels label.level m.all) t.args) (all_shareable labels label.level t.code) (shareable_back labels label t.result)
          (list_all (fine k label t here e) (bearers program k)))

  -- labels from a number on
  pub rule_is : (lending : ℕ → Bool) → ((k : ℕ) → lending k ≡ all_lend (all_backs labels) known k (bearings_of program))
      → (k : ℕ) (ls : List LabelFact) → drop k labels ≡ ls → unshared_by lending labels k ls ≡ unshared_from program labels k ls
  unfolding unshared_by unshared_from
  rule_is lending is k [] e = refl
  rule_is lending is k (l ∷ ls) e =
      rw (shared_is k l (lending k) (at_drop labels k l ls e) (is k)) (ap (λ (xs : Lines). unless (is_shared program labels k l) l.line ++ xs) (rule_is lending is (suc k) ls (past_drop labels k l ls e)))

-- the rule of a program, by what is noted of its labels and of the signatures of its functions
pub rule_here : (program : Program) (labels : List LabelFact) (lending : ℕ → Bool) (noted : Known) (bs : List Bearing) → labels ≡ labels_of program → bs ≡ bearings_of program
    → ((name : Word) → noted name ≡ first (flat_map defined_by program.items ++ flat_map declared_by program.items) name)
    → ((k : ℕ) → lending k ≡ all_lend (all_backs labels) noted k bs)
    → unshared_by lending labels 0 labels ≡ not_shareable program
unfolding not_shareable first signature_of
rule_here program labels lending noted bs e b same is =
    rule_is program labels lending (λ k. is k ∙ all_same (all_backs labels) noted (known program labels) k same bs ∙ ap (all_lend (all_backs labels) (known program labels) k) b) 0 labels refl
    ∙ ap (λ (ls : List LabelFact). unshared_from program ls 0 ls) e
