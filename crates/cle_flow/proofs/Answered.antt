-- What the answers of the rules and of `flow` say.
use Rattle.std.proofs.Common.{◌≡◌, ◌⊎◌, inl, inr, ◌≤◌, ℕ, List, [], ◌∷◌, ◌++◌, map, length, Some, None, refl, sym, ap, subst, ◌∙◌, Result, Ok, Err, IfOk, IfErr, MatchResult}
use Rattle.std.specs.List.{flat_map}
use Rattle.std.specs.Result.{IsErrAnd}
use Rattle.cl_groups.specs.Marks.{IsLeast}
use Rattle.cl_levels.specs.Crossings.{Levelled}
use Rattle.cl_levels.specs.Placed.{PlacedRule, placed, Holds, AllPlacedHold}
use Rattle.cl_levels.proofs.Answered.{not_both, one_first, HasOneLine, AllHaveOneLine}
use Rattle.cl_mean.specs.declared.checked.Flow.{Flow}
use Rattle.cle_ways.specs.declared.ways.Body.{Body}
use Rattle.cle_ways.specs.declared.ways.Note.{Note}
use Rattle.cle_ways.specs.Ways.{notes_of, notes_of_objects, bodies_of}
use Rattle.cle_ways.specs.Flow.{exceeded, flow_rules, AreFlows, IsFlow}
use Rattle.cle_walk.specs.declared.program.Notes.{Notes}
use Rattle.cle_table.specs.declared.table.Table.{Table}
use Rattle.cle_table.specs.Exact.{noted, IsExact}
use Rattle.cle_flow.specs.declared.stop.FlowStop.{FlowStop}
use Rattle.cle_flow.specs.declared.stop.FlowStop.TheVariants as stop
use Rattle.cle_flow.specs.Judged.{Broken}
use Rattle.cle_flow.specs.Answer.{IsFailure, RulesAnswer, HasFlow, FlowAnswer, FlowFails}
use Rattle.cle_flow.proofs.Same.{same_flow}

-- ---- one rule

module _ (l : Levelled) (rule : ℕ) where
  pub rule_holds : IsLeast (Broken l rule (notes_of l)) None → AllPlacedHold (placed rule (exceeded rule l) ∷ [])
  rule_holds h = ((λ position line f. h line f.1), tt)

  pub rule_fails : (line : ℕ) → IsLeast (Broken l rule (notes_of l)) (Some line) → IsFailure (placed rule (exceeded rule l) ∷ []) (stop.Rule rule line)
  rule_fails line h = inl (refl, (line, ((refl, h.0), λ other at f. subst (λ (n : ℕ). line ≤ n) (sym f.0) (h.1 at f.1))))

-- ---- rules in turn

pub handed : {A : Type 0} (rs : List PlacedRule) (r : Result A FlowStop) (e : FlowStop) → IsErrAnd r (λ t. t ≡ e) → IsFailure rs e → RulesAnswer rs r
handed rs (Ok x) e h f = absurd h
handed rs (Err t) e h f = subst (IsFailure rs) (sym h) f

pub fails_here : (r : PlacedRule) (rs : List PlacedRule) (e : FlowStop) → IsFailure (r ∷ []) e → IsFailure (r ∷ rs) e
fails_here r rs (stop.Rule number line) (inl h) = inl h
fails_here r rs (stop.Rule number line) (inr h) = absurd h.1
fails_here r rs stop.NoMemory h = tt

pub fails_later : (r : PlacedRule) (rs : List PlacedRule) (e : FlowStop) → Holds r.Fails → IsFailure rs e → IsFailure (r ∷ rs) e
fails_later r rs (stop.Rule number line) h f = inr (h, f)
fails_later r rs stop.NoMemory h f = tt

-- ---- from the tables to the flow

pub noted_is : (l : Levelled) (n : Notes) → n.objects ≡ notes_of_objects l → n.functions ≡ bodies_of l → noted n ≡ notes_of l
noted_is l n e f = ap (λ os. os ++ flat_map (λ b. b.notes) n.functions) e ∙ ap (λ fs. notes_of_objects l ++ flat_map (λ b. b.notes) fs) f

pub is_flow : (l : Levelled) (t : Table) (count : ℕ) (bodies : List Body) (flow : Flow) → count ≡ length l.annotated.typed.objects → bodies ≡ bodies_of l
    → IsExact (notes_of l) t → ((ns : List Note) → IsExact ns t → AreFlows ns count (map (λ b. b.locals) bodies) flow) → IsFlow l flow
is_flow l t count bodies flow e f exact of =
    subst (λ (n : ℕ). AreFlows (notes_of l) n (map (λ b. b.locals) (bodies_of l)) flow) e
    (subst (λ (bs : List Body). AreFlows (notes_of l) count (map (λ b. b.locals) bs) flow) f (of (notes_of l) exact))

-- ---- the answer of `flow`

pub flow_handed : (l : Levelled) (r : Result Flow FlowStop) (e : FlowStop) → IsErrAnd r (λ t. t ≡ e) → IsFailure (flow_rules l) e → FlowAnswer l r
flow_handed l (Ok x) e h f = absurd h
flow_handed l (Err t) e h f = subst (IsFailure (flow_rules l)) (sym h) f

exceeded_one_line : (rule : ℕ) (l : Levelled) → HasOneLine (exceeded rule l)
exceeded_one_line rule l position line other f g = sym f.0 ∙ g.0

module _ (l : Levelled) where
  lines_of_rules : AllHaveOneLine (flow_rules l)
  lines_of_rules = (exceeded_one_line 31 l, (exceeded_one_line 32 l, (exceeded_one_line 33 l, (exceeded_one_line 34 l, tt))))

  pub one_failure : (rule line r m : ℕ) → FlowFails l rule line → FlowFails l r m → (rule ≡ r) × (line ≡ m)
  one_failure rule line r m f g = one_first (flow_rules l) rule line r m lines_of_rules f g

  pub one_flow : (x y : Flow) → IsFlow l x → IsFlow l y → x ≡ y
  one_flow x y f g = same_flow (notes_of l) _ _ x y f g

  pub answer_found : (r : Result Flow FlowStop) → FlowAnswer l r → IfOk r (λ f. HasFlow l f)
  answer_found (Ok x) h = h
  answer_found (Err e) h = tt

  pub answer_only : (r : Result Flow FlowStop) → FlowAnswer l r → (f : Flow) → HasFlow l f → MatchResult r (λ x. x ≡ f) (λ e. e ≡ stop.NoMemory)
  answer_only (Ok x) h f all = one_flow x f h.is_flow all.is_flow
  answer_only (Err (stop.Rule number line)) h f all = absurd (not_both (flow_rules l) number line all.holds h)
  answer_only (Err stop.NoMemory) h f all = refl

  pub answer_fails : (r : Result Flow FlowStop) → FlowAnswer l r → IfErr r (λ e. IsFailure (flow_rules l) e)
  answer_fails (Ok x) h = tt
  answer_fails (Err e) h = h

  pub answer_rule : (r : Result Flow FlowStop) → FlowAnswer l r → (number line : ℕ) → FlowFails l number line
      → MatchResult r (λ x. ⊥) (λ e. (e ≡ stop.Rule number line) ⊎ (e ≡ stop.NoMemory))
  answer_rule (Ok x) h number line f = not_both (flow_rules l) number line h.holds f
  answer_rule (Err (stop.Rule n m)) h number line f =
      let e = one_failure n m number line h f in inl (ap (λ k. stop.Rule k m) e.0 ∙ ap (λ k. stop.Rule number k) e.1)
  answer_rule (Err stop.NoMemory) h number line f = inr refl
