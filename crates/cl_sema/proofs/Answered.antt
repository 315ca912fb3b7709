-- What the answer for a list of rules says.
use Rattle.std.proofs.Common.{◌≡◌, ◌⊎◌, inl, inr, ℕ, List, [], ◌∷◌, refl, sym, ap, ◌∙◌, Result, Ok, Err, IfOk, IfErr, MatchResult}
use Rattle.cl_typing.specs.Rules.{Rule, Lines, AllHold, FirstFails}
use Rattle.cl_sema.specs.declared.stop.SemaStop.{SemaStop}
use Rattle.cl_sema.specs.declared.stop.SemaStop.TheVariants as stop
use Rattle.cl_tree.specs.declared.tree.Program.{Program}
use Rattle.cl_mean.specs.declared.checked.FnFact.{FnFact}
use Rattle.cl_mean.specs.declared.checked.ObjFact.{ObjFact}
use Rattle.cl_mean.specs.declared.checked.Typed.{Typed}
use Rattle.cl_typing.specs.Typing.{rules, IsTyped, TypingFails}
use Rattle.cl_typing.specs.Facts.{functions_of, objects_of}
use Rattle.cl_sema.specs.Answer.{IsFailure, TypedAnswer, HasTyping, HasFailure}

-- Rules that all hold have no first that fails.
not_both : (rs : List Rule) (number line : ℕ) → AllHold rs → FirstFails rs number line → ⊥
not_both [] number line h f = f
not_both (r ∷ rs) number line h (inl f) = let a : r.places ≡ [] = h.0 in let b : r.places ≡ line ∷ f.1.0 = f.1.1 in cc
not_both (r ∷ rs) number line h (inr f) = not_both rs number line h.1 f.1

-- One rule is the first to fail, at one line.
one_first : (rs : List Rule) (m k n l : ℕ) → FirstFails rs m k → FirstFails rs n l → (m ≡ n) × (k ≡ l)
one_first [] m k n l f g = absurd f
one_first (r ∷ rs) m k n l (inl f) (inl g) =
    let a : m ≡ r.number = f.0 in let b : n ≡ r.number = g.0 in let c : r.places ≡ k ∷ f.1.0 = f.1.1 in
    let d : r.places ≡ l ∷ g.1.0 = g.1.1 in let h : m ≡ n = cc in let i : k ≡ l = cc in (h, i)
one_first (r ∷ rs) m k n l (inl f) (inr g) =
    let a : r.places ≡ [] = g.0 in let b : r.places ≡ k ∷ f.1.0 = f.1.1 in absurd (cc)
one_first (r ∷ rs) m k n l (inr f) (inl g) =
    let a : r.places ≡ [] = f.0 in let b : r.places ≡ l ∷ g.1.0 = g.1.1 in absurd (cc)
one_first (r ∷ rs) m k n l (inr f) (inr g) = one_first rs m k n l f.1 g.1

same_stop : (m k n l : ℕ) → (m ≡ n) × (k ≡ l) → stop.Rule m k ≡ stop.Rule n l
same_stop m k n l h = let a : m ≡ n = h.0 in let b : k ≡ l = h.1 in cc

-- All rules hold, or one is the first to fail.
hold_or_fail : (rs : List Rule) → AllHold rs ⊎ ((number : ℕ) × (line : ℕ) × FirstFails rs number line)
hold_or_fail [] = inl tt
hold_or_fail (r ∷ rs) = next_case r rs r.places refl (hold_or_fail rs)
  where
    next_case : (r : Rule) (rs : List Rule) (places : Lines) → r.places ≡ places
        → AllHold rs ⊎ ((number : ℕ) × (line : ℕ) × FirstFails rs number line)
        → AllHold (r ∷ rs) ⊎ ((number : ℕ) × (line : ℕ) × FirstFails (r ∷ rs) number line)
    next_case r rs [] e (inl h) = inl (e, h)
    next_case r rs [] e (inr f) = inr (f.0, f.1, inr (e, f.2))
    next_case r rs (line ∷ rest) e h = inr (r.number, line, inl (refl, (rest, e)))

abbrev made : Program → List FnFact → List ObjFact → Typed
made p fs os = record { program = p; functions = fs; objects = os }

module _ (program : Program) where
  pub answer_found : (r : Result Typed SemaStop) → TypedAnswer program r → IfOk r (λ t. IsTyped program t)
  answer_found (Ok x) h = h
  answer_found (Err e) h = tt

  -- a program has one typing
  pub one_typing : (x t : Typed) → IsTyped program x → IsTyped program t → x ≡ t
  one_typing x t a b =
      ap (λ (p : Program). made p x.functions x.objects) (a.same ∙ sym b.same)
      ∙ ap (λ (fs : List FnFact). made t.program fs x.objects) (a.functions ∙ sym b.functions)
      ∙ ap (λ (os : List ObjFact). made t.program t.functions os) (a.objects ∙ sym b.objects)

  pub answer_only : (r : Result Typed SemaStop) → TypedAnswer program r → (t : Typed) → IsTyped program t
      → MatchResult r (λ x. x ≡ t) (λ e. e ≡ stop.NoMemory)
  answer_only (Ok x) h t all = one_typing x t h all
  answer_only (Err (stop.Rule number line)) h t all = absurd (not_both (rules program) number line all.holds h)
  answer_only (Err stop.NoMemory) h t all = refl

  pub answer_fails : (r : Result Typed SemaStop) → TypedAnswer program r → IfErr r (λ e. IsFailure (rules program) e)
  answer_fails (Ok x) h = tt
  answer_fails (Err e) h = h

  pub answer_rule : (r : Result Typed SemaStop) → TypedAnswer program r → (number line : ℕ)
      → FirstFails (rules program) number line
      → MatchResult r (λ x. ⊥) (λ e. (e ≡ stop.Rule number line) ⊎ (e ≡ stop.NoMemory))
  answer_rule (Ok x) h number line f = not_both (rules program) number line h.holds f
  answer_rule (Err (stop.Rule n l)) h number line f = inl (same_stop n l number line
      (one_first (rules program) n l number line h f))
  answer_rule (Err stop.NoMemory) h number line f = inr refl

  pub has_answer : HasTyping program ⊎ HasFailure program
  has_answer = elim (hold_or_fail (rules program)) [
    | inl h ↦ inl (
      made program (functions_of program) (objects_of program),
      record { holds = h; same = refl; functions = refl; objects = refl },
    )
    | inr f ↦ inr f
  ]

  pub one_side : HasTyping program → HasFailure program → ⊥
  one_side t f = not_both (rules program) f.0 f.1 t.1.holds f.2

  pub one_failure : (rule line r l : ℕ) → TypingFails program rule line → TypingFails program r l
      → (rule ≡ r) × (line ≡ l)
  one_failure rule line r l f g = one_first (rules program) rule line r l f g
