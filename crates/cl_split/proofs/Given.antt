-- What is given of a program that is typed and has labels.
use Rattle.std.proofs.Common.{◌≡◌, ◌⊎◌, inl, inr, ⊎_elim, ◌<◌, ◌≤◌, ℕ, zero, suc, List, [], ◌∷◌, map, length, All, Option, Some, None, option_map, slice_index_or, refl, sym, ap, subst, ◌∙◌, arith}
use Rattle.std.proofs.lemmas.Bool.{cases_lt}
use Rattle.std.proofs.lemmas.List.{get_or_past}
use Rattle.std.proofs.Math.ListN as seq
use Rattle.std.proofs.lemmas.Option.{none-some, same_Some}
use Rattle.cl_mean.specs.declared.checked.Typed.{Typed}
use Rattle.cl_mean.specs.declared.labels.LabelFact.{LabelFact}
use Rattle.cl_mean.specs.declared.labels.LabelTable.{LabelTable}
use Rattle.cl_mean.specs.Source.{label_at}
use Rattle.cl_labelling.specs.Labelling.{IsLabelled}
use Rattle.cl_levels.specs.Levels.{Annotated, Symbol, function, object, own_level, label_of, IsFree}
use Rattle.cl_groups.specs.declared.own.Own.{Own}
use Rattle.cl_groups.specs.Grounds.{AreOwn}
use Rattle.cl_groups.specs.Own.{own_at, own_of}
use Rattle.labelling_laws.specs.Within.{MaybeWithin, LabelWithin}
use Rattle.labelling_laws.proofs.Tables.{levels_are_few, labels_within, on_functions_within, on_objects_within}
use Rattle.cl_split.specs.Answer.{annotated}

within_at : (table : LabelTable) (xs : List (Option ℕ)) (k : ℕ) → All (MaybeWithin table) xs → MaybeWithin table (slice_index_or xs k None)
within_at table xs k all = ⊎_elim (λ (l : k < length xs). all k None l)
    (λ (g : length xs ≤ k). subst (λ o. MaybeWithin table o) (sym (get_or_past xs k None g)) tt) (cases_lt k (length xs))

in_range : (ls : List LabelFact) (k : ℕ) → k < length ls → label_at ls (Some k) ≡ None → ⊥
in_range [] k l e = omega arith
in_range (f ∷ fs) zero l e = none-some f (sym e)
in_range (f ∷ fs) (suc k) l e = in_range fs k (omega arith) e

fact_at : (P : LabelFact → Type 0) (ls : List LabelFact) (k : ℕ) (f : LabelFact) → All P ls → label_at ls (Some k) ≡ Some f → P f
fact_at P [] k f all e = absurd (none-some f e)
fact_at P (x ∷ xs) zero f all e = subst P (same_Some x f e) (all 0 x (omega arith))
fact_at P (x ∷ xs) (suc k) f all e = fact_at P xs k f (λ i d l. all (suc i) d (omega arith)) e

none_mapped : (o : Option LabelFact) → option_map (λ l. l.level) o ≡ None → o ≡ None
none_mapped None e = refl
none_mapped (Some f) e = absurd (none-some f.level (sym e))

some_mapped : (o : Option LabelFact) (level : ℕ) → option_map (λ l. l.level) o ≡ Some level → (f : LabelFact) × ((o ≡ Some f) × (f.level ≡ level))
some_mapped None level e = absurd (none-some level e)
some_mapped (Some f) level e = (f, (refl, same_Some f.level level e))

module _ (typed : Typed) (labels : LabelTable) (l : IsLabelled typed labels) where
  abbrev a : Annotated
  a = annotated typed labels

  label_within : (x : Symbol) → MaybeWithin labels (label_of a x)
  label_within (function k) = within_at labels labels.on_functions k (on_functions_within typed labels l)
  label_within (object k) = within_at labels labels.on_objects k (on_objects_within typed labels l)

  sure : (x : Symbol) (o : Option ℕ) → label_of a x ≡ o → option_map (λ l. l.level) (label_at labels.labels o) ≡ None → label_of a x ≡ None
  sure x None i e = i
  sure x (Some k) i e =
      absurd (in_range labels.labels k (subst (λ o. MaybeWithin labels o) i (label_within x)) (none_mapped (label_at labels.labels (Some k)) e))

  pub below : (o : Option ℕ) (level : ℕ) → option_map (λ l. l.level) (label_at labels.labels o) ≡ Some level → level < 32
  below None level e = absurd (none-some level e)
  below (Some k) level e =
      let f = some_mapped (label_at labels.labels (Some k)) level e in
      let w : LabelWithin labels f.0 = fact_at (LabelWithin labels) labels.labels k f.0 (labels_within typed labels l) f.1.0 in
      let few : length labels.levels ≤ 32 = levels_are_few typed labels l in
      let n : f.0.level < length labels.levels = w.level in
      let i : f.0.level ≡ level = f.1.1 in
      omega arith

  module _ (own : Own) (functions : own.functions ≡ map (own_of labels.labels) labels.on_functions) (objects : own.objects ≡ map (own_of labels.labels) labels.on_objects) where
    agree : (x : Symbol) → own_at own x ≡ own_level a x
    agree (function k) = ap (λ ls. slice_index_or ls k None) functions ∙ seq.get_or-map (own_of labels.labels) labels.on_functions k None
    agree (object k) = ap (λ ls. slice_index_or ls k None) objects ∙ seq.get_or-map (own_of labels.labels) labels.on_objects k None

    pub are_own : AreOwn a own
    are_own = record {
      agree = agree;
      sure = λ x e. sure x (label_of a x) refl e;
      below = λ x level e. below (label_of a x) level (sym (agree x) ∙ e);
    }
