-- What the answer of `assign` says; and that `main` is there.
use Rattle.std.proofs.Common.{◌≡◌, ◌⊎◌, inl, inr, ℕ, suc, List, [], ◌∷◌, Option, Some, None, Bool, true, false, bytes_eq, codes, if◌then◌else◌, refl, sym, ap, subst, ◌∙◌, Result, Ok, Err, IfOk, IfErr, MatchResult}
use Rattle.std.proofs.lemmas.Bool.{false≢true}
use Rattle.std.proofs.lemmas.Option.{none-some, same_Some}
use Rattle.cl_mean.specs.declared.checked.FnFact.{FnFact}
use Rattle.cl_mean.specs.declared.checked.Levels.{Levels}
use Rattle.cl_typing.specs.Typing.{IsTyped}
use Rattle.cl_mean.specs.declared.checked.Typed.{Typed}
use Rattle.cl_tree.specs.Words.{Word}
use Rattle.typing_laws.specs.Standing.{OneOf}
use Rattle.typing_laws.proofs.Listing.{has_main}
use Rattle.cl_levels.specs.Crossings.{level_rules}
use Rattle.cl_levels.specs.Levels.{Annotated, IsLevelled, foreign_names}
use Rattle.cl_levels.specs.Placed.{Places, PlacedRule, FirstPlacedFails, listed}
use Rattle.cl_levels.specs.Uses.{number_from, number_among}
use Rattle.cl_levels.proofs.Answered.{not_both, one_first, HasOneLine, AllHaveOneLine}
use Rattle.cl_levels.proofs.Levelled.{one_levels, two_one_line}
use Rattle.cl_split.specs.declared.stop.SplitStop.{SplitStop}
use Rattle.cl_split.specs.declared.stop.SplitStop.TheVariants as stop
use Rattle.cl_split.specs.Answer.{IsFailure, HasLevels, LevelsAnswer}

pub listed_one_line : (lines : List ℕ) → HasOneLine (listed lines)
listed_one_line lines position line other e f = same_Some line other (sym e ∙ f)

module _ (a : Annotated) where
  lines_of_rules : AllHaveOneLine (level_rules a)
  lines_of_rules = (two_one_line a, (listed_one_line (foreign_names a), tt))

  pub answer_found : (r : Result Levels SplitStop) → LevelsAnswer a r → IfOk r (λ l. HasLevels a l)
  answer_found (Ok x) h = h
  answer_found (Err e) h = tt

  pub answer_only : (r : Result Levels SplitStop) → LevelsAnswer a r → (l : Levels) → HasLevels a l
      → MatchResult r (λ x. x ≡ l) (λ e. e ≡ stop.NoMemory)
  answer_only (Ok x) h l all = one_levels a all.holds.0 x l h.levelled all.levelled
  answer_only (Err (stop.Rule number line)) h l all = absurd (not_both (level_rules a) number line all.holds h)
  answer_only (Err stop.NoMemory) h l all = refl

  pub answer_fails : (r : Result Levels SplitStop) → LevelsAnswer a r → IfErr r (λ e. IsFailure (level_rules a) e)
  answer_fails (Ok x) h = tt
  answer_fails (Err e) h = h

  pub answer_rule : (r : Result Levels SplitStop) → LevelsAnswer a r → (number line : ℕ) → FirstPlacedFails (level_rules a) number line
      → MatchResult r (λ x. ⊥) (λ e. (e ≡ stop.Rule number line) ⊎ (e ≡ stop.NoMemory))
  answer_rule (Ok x) h number line f = not_both (level_rules a) number line h.holds f
  answer_rule (Err (stop.Rule n l)) h number line f =
      let e = one_first (level_rules a) n l number line lines_of_rules h f in
      inl (ap (λ m. stop.Rule m l) e.0 ∙ ap (λ m. stop.Rule number m) e.1)
  answer_rule (Err stop.NoMemory) h number line f = inr refl

  pub one_failure : (rule line r l : ℕ) → FirstPlacedFails (level_rules a) rule line → FirstPlacedFails (level_rules a) r l → (rule ≡ r) × (line ≡ l)
  one_failure rule line r l f g = one_first (level_rules a) rule line r l lines_of_rules f g

-- ---- `main`

found_by : (k : ℕ) (fs : List FnFact) (f : FnFact) (name : Word) → OneOf fs f → bytes_eq f.name name ≡ true → number_from k fs name ≡ None → ⊥
unfolding number_from
found_by k [] f name h e n = h
found_by k (g ∷ gs) f name h e n = by (bytes_eq g.name name) refl h n (λ o. found_by (suc k) gs f name o e)
  where
    by : (b : Bool) → bytes_eq g.name name ≡ b → (f ≡ g) ⊎ OneOf gs f → (if b then Some k else number_from (suc k) gs name) ≡ None
        → (OneOf gs f → number_from (suc k) gs name ≡ None → ⊥) → ⊥
    by true i h n rest = none-some k (sym n)
    by false i (inl s) n rest = absurd (false≢true (sym i ∙ ap (λ (x : FnFact). bytes_eq x.name name) (sym s) ∙ e))
    by false i (inr o) n rest = rest o n

pub main_there : (typed : Typed) → IsTyped typed.program typed → number_among typed.functions (codes "main") ≡ None → ⊥
main_there typed t n =
    let m = has_main typed.program t.holds in
    found_by 0 typed.functions m.fact (codes "main") (subst (λ fs. OneOf fs m.fact) (sym t.functions) m.listed) (rw m.named refl) n
