-- What the answer for a list of rules says.
use Rattle.std.proofs.Common.{◌≡◌, ◌⊎◌, inl, inr, ℕ, List, [], ◌∷◌, refl, sym, ap, ◌∙◌, Result, Ok, Err, IfOk, IfErr, MatchResult}
use Rattle.cl_typing.specs.Rules.{Rule, Lines, AllHold, FirstFails}
use Rattle.cl_mean.specs.declared.checked.Typed.{Typed}
use Rattle.cl_mean.specs.declared.labels.LabelTable.{LabelTable}
use Rattle.cl_labelling.specs.Items.{on_functions, on_objects}
use Rattle.cl_labelling.specs.Labelling.{label_rules, IsLabelled, LabellingFails}
use Rattle.cl_labelling.specs.Names.{labels_of, levels_of}
use Rattle.cle_defs.specs.declared.stop.CleStop.{CleStop}
use Rattle.cle_defs.specs.declared.stop.CleStop.TheVariants as stop
use Rattle.cle_defs.specs.Answer.{IsFailure, TableAnswer, HasTable, HasFailure}

-- Rules that all hold have no first that fails.
not_both : (rs : List Rule) (number line : ℕ) → AllHold rs → FirstFails rs number line → ⊥
not_both [] number line h f = f
not_both (r ∷ rs) number line h (inl f) = let a : r.places ≡ [] = h.0 in let b : r.places ≡ line ∷ f.1.0 = f.1.1 in cc
not_both (r ∷ rs) number line h (inr f) = not_both rs number line h.1 f.1

-- One rule is the first to fail, at one line.
one_first : (rs : List Rule) (m k n l : ℕ) → FirstFails rs m k → FirstFails rs n l → (m ≡ n) × (k ≡ l)
one_first [] m k n l f g = absurd f
one_first (r ∷ rs) m k n l (inl f) (inl g) =
    let a : m ≡ r.number = f.0 in let b : n ≡ r.number = g.0 in let c : r.places ≡ k ∷ f.1.0 = f.1.1 in
    let d : r.places ≡ l ∷ g.1.0 = g.1.1 in let h : m ≡ n = cc in let i : k ≡ l = cc in (h, i)
one_first (r ∷ rs) m k n l (inl f) (inr g) =
    let a : r.places ≡ [] = g.0 in let b : r.places ≡ k ∷ f.1.0 = f.1.1 in absurd (cc)
one_first (r ∷ rs) m k n l (inr f) (inl g) =
    let a : r.places ≡ [] = f.0 in let b : r.places ≡ l ∷ g.1.0 = g.1.1 in absurd (cc)
one_first (r ∷ rs) m k n l (inr f) (inr g) = one_first rs m k n l f.1 g.1

same_stop : (m k n l : ℕ) → (m ≡ n) × (k ≡ l) → stop.Rule m k ≡ stop.Rule n l
same_stop m k n l h = let a : m ≡ n = h.0 in let b : k ≡ l = h.1 in cc

-- All rules hold, or one is the first to fail.
hold_or_fail : (rs : List Rule) → AllHold rs ⊎ ((number : ℕ) × (line : ℕ) × FirstFails rs number line)
hold_or_fail [] = inl tt
hold_or_fail (r ∷ rs) = next_case r rs r.places refl (hold_or_fail rs)
  where
    next_case : (r : Rule) (rs : List Rule) (places : Lines) → r.places ≡ places
        → AllHold rs ⊎ ((number : ℕ) × (line : ℕ) × FirstFails rs number line)
        → AllHold (r ∷ rs) ⊎ ((number : ℕ) × (line : ℕ) × FirstFails (r ∷ rs) number line)
    next_case r rs [] e (inl h) = inl (e, h)
    next_case r rs [] e (inr f) = inr (f.0, f.1, inr (e, f.2))
    next_case r rs (line ∷ rest) e h = inr (r.number, line, inl (refl, (rest, e)))

module _ (typed : Typed) where
  pub answer_found : (r : Result LabelTable CleStop) → TableAnswer typed r → IfOk r (λ t. IsLabelled typed t)
  answer_found (Ok x) h = h
  answer_found (Err e) h = tt

  -- a program has one table
  pub one_table : (x t : LabelTable) → IsLabelled typed x → IsLabelled typed t → x ≡ t
  one_table x t a b =
      ap (λ levels. record { levels = levels; labels = x.labels; on_functions = x.on_functions; on_objects = x.on_objects }) (a.levels ∙ sym b.levels)
      ∙ ap (λ labels. record { levels = t.levels; labels = labels; on_functions = x.on_functions; on_objects = x.on_objects }) (a.labels ∙ sym b.labels)
      ∙ ap (λ functions. record { levels = t.levels; labels = t.labels; on_functions = functions; on_objects = x.on_objects }) (a.on_functions ∙ sym b.on_functions)
      ∙ ap (λ objects. record { levels = t.levels; labels = t.labels; on_functions = t.on_functions; on_objects = objects }) (a.on_objects ∙ sym b.on_objects)

  pub answer_only : (r : Result LabelTable CleStop) → TableAnswer typed r → (t : LabelTable) → IsLabelled typed t
      → MatchResult r (λ x. x ≡ t) (λ e. e ≡ stop.NoMemory)
  answer_only (Ok x) h t all = one_table x t h all
  answer_only (Err (stop.Rule number line)) h t all = absurd (not_both (label_rules typed.program) number line all.holds h)
  answer_only (Err stop.NoMemory) h t all = refl

  pub answer_fails : (r : Result LabelTable CleStop) → TableAnswer typed r → IfErr r (λ e. IsFailure (label_rules typed.program) e)
  answer_fails (Ok x) h = tt
  answer_fails (Err e) h = h

  pub answer_rule : (r : Result LabelTable CleStop) → TableAnswer typed r → (number line : ℕ)
      → FirstFails (label_rules typed.program) number line
      → MatchResult r (λ x. ⊥) (λ e. (e ≡ stop.Rule number line) ⊎ (e ≡ stop.NoMemory))
  answer_rule (Ok x) h number line f = not_both (label_rules typed.program) number line h.holds f
  answer_rule (Err (stop.Rule n l)) h number line f = inl (same_stop n l number line
      (one_first (label_rules typed.program) n l number line h f))
  answer_rule (Err stop.NoMemory) h number line f = inr refl

  pub has_answer : HasTable typed ⊎ HasFailure typed
  has_answer = elim (hold_or_fail (label_rules typed.program)) [
    | inl h ↦ inl (
      record { levels = levels_of typed.program; labels = labels_of typed.program; on_functions = on_functions typed.program typed.functions; on_objects = on_objects typed.program },
      record { holds = h; levels = refl; labels = refl; on_functions = refl; on_objects = refl },
    )
    | inr f ↦ inr f
  ]

  pub one_side : HasTable typed → HasFailure typed → ⊥
  one_side t f = not_both (label_rules typed.program) f.0 f.1 t.1.holds f.2

  pub one_failure : (rule line r l : ℕ) → LabellingFails typed rule line → LabellingFails typed r l
      → (rule ≡ r) × (line ≡ l)
  one_failure rule line r l f g = one_first (label_rules typed.program) rule line r l f g
