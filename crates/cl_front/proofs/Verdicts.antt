-- A source has one verdict.
use Rattle.std.proofs.Common.{◌≡◌, ◌⊎◌, inl, inr, ℕ, List, refl, sym, ap, subst, ◌∙◌, Result, Ok, Err, IfOk, IfErr, MatchResult}
use Rattle.cl_mean.specs.declared.checked.Checked.{Checked}
use Rattle.cl_mean.specs.declared.checked.Flow.{Flow}
use Rattle.cl_mean.specs.declared.checked.GedlRows.{GedlRows}
use Rattle.cl_mean.specs.declared.checked.Levels.{Levels}
use Rattle.cl_mean.specs.declared.checked.Typed.{Typed}
use Rattle.cl_mean.specs.declared.labels.LabelTable.{LabelTable}
use Rattle.cl_tree.specs.declared.tree.Program.{Program}
use Rattle.cl_read.specs.Source.{ReadsWithin, FailsFirst}
use Rattle.cl_read.specs.Answer as reading
use Rattle.cl_read.specs.declared.stop.ReadStop.{ReadStop}
use Rattle.cl_read.specs.declared.stop.ReadStop.TheVariants as read
use Rattle.cl_read.proofs.One as source
use Rattle.cl_typing.specs.Typing.{rules, IsTyped, TypingFails}
use Rattle.cl_sema.specs.Answer as typing
use Rattle.cl_sema.specs.declared.stop.SemaStop.{SemaStop}
use Rattle.cl_sema.specs.declared.stop.SemaStop.TheVariants as sema
use Rattle.cl_sema.proofs.Answered as program
use Rattle.cl_labelling.specs.Labelling.{label_rules, IsLabelled, LabellingFails}
use Rattle.cle_defs.specs.Answer as labelling
use Rattle.cle_defs.specs.declared.stop.CleStop.{CleStop}
use Rattle.cle_defs.specs.declared.stop.CleStop.TheVariants as defs
use Rattle.cle_defs.proofs.Answered as table
use Rattle.cl_levels.specs.Crossings.{Levelled, level_rules, crossing_rules}
use Rattle.cl_levels.specs.Placed.{AllPlacedHold}
use Rattle.cl_levels.proofs.Answered.{not_both, one_first}
use Rattle.cl_levels.proofs.Levelled.{one_levels}
use Rattle.cl_split.specs.Answer.{annotated, levelled, HasLevels, HasRows, LevelsFail, CrossingsFail}
use Rattle.cl_split.specs.Answer as splitting
use Rattle.cl_split.specs.declared.stop.SplitStop.{SplitStop}
use Rattle.cl_split.specs.declared.stop.SplitStop.TheVariants as split
use Rattle.cl_split.proofs.Answered as levels
use Rattle.cl_split.proofs.Lines as rows
use Rattle.cl_split.proofs.Refused.{one_rows}
use Rattle.cle_ways.specs.Flow.{flow_rules}
use Rattle.cle_flow.specs.Answer.{HasFlow, FlowFails}
use Rattle.cle_flow.specs.Answer as flowing
use Rattle.cle_flow.specs.declared.stop.FlowStop.{FlowStop}
use Rattle.cle_flow.specs.declared.stop.FlowStop.TheVariants as flow
use Rattle.cle_flow.proofs.Answered as carried
use Rattle.std.specs.Result.{IsErrAnd}
use Rattle.cl_front.specs.declared.stop.FrontStop.{FrontStop}
use Rattle.cl_front.specs.declared.stop.FrontStop.TheVariants.{Refused, NoMemory}
use Rattle.cl_front.specs.Stops.{of_reading, of_typing, of_labelling, of_splitting, of_flowing}
use Rattle.cl_front.specs.Verdict.{IsAccepted, InTurn, CallsFail, DivisionFails, AnnotationsFail, ProgramFails, IsRefused, IsRefusal, Verdict}
use Rattle.cl_front.proofs.Turns.{Once, Never, once, never}

-- ---- what the passes' refusals say of the source

pub handed : (bytes : List ℕ) (r : Result Checked FrontStop) (e : FrontStop) → IsErrAnd r (λ t. t ≡ e) → IsRefusal bytes e → Verdict bytes r
handed bytes (Ok x) e h f = absurd h
handed bytes (Err t) e h f = subst (IsRefusal bytes) (sym h) f

pub typed_itself : (p : Program) (t : Typed) → IsTyped p t → IsTyped t.program t
typed_itself p t is = subst (λ q. IsTyped q t) (sym is.same) is

pub reading_fails : (bytes : List ℕ) (e : ReadStop) → reading.IsFailure bytes e → IsRefusal bytes (of_reading e)
reading_fails bytes (read.Refused rule line) h = inl h
reading_fails bytes read.NoMemory h = tt

module _ (bytes : List ℕ) (p : Program) (r : ReadsWithin bytes p) where
  pub typing_fails : (e : SemaStop) → typing.IsFailure (rules p) e → IsRefusal bytes (of_typing e)
  typing_fails (sema.Rule rule line) h = inr (p, (r, inl h))
  typing_fails sema.NoMemory h = tt

  module _ (t : Typed) (is : IsTyped p t) where
    pub labelling_fails : (e : CleStop) → labelling.IsFailure (label_rules t.program) e → IsRefusal bytes (of_labelling e)
    labelling_fails (defs.Rule rule line) h = inr (p, (r, inr (t, (is, inl h))))
    labelling_fails defs.NoMemory h = tt

    module _ (l : LabelTable) (has : IsLabelled t l) where
      pub levels_fail : (e : SplitStop) → splitting.IsFailure (level_rules (annotated t l)) e → IsRefusal bytes (of_splitting e)
      levels_fail (split.Rule rule line) h = inr (p, (r, inr (t, (is, inr (l, (has, inl h))))))
      levels_fail split.NoMemory h = tt

      module _ (v : Levels) (h : HasLevels (annotated t l) v) where
        pub crossings_fail : (e : SplitStop) → splitting.IsFailure (crossing_rules (levelled t l v)) e → IsRefusal bytes (of_splitting e)
        crossings_fail (split.Rule rule line) f = inr (p, (r, inr (t, (is, inr (l, (has, inr (v, (h, inl f))))))))
        crossings_fail split.NoMemory f = tt

        pub flow_fails : (rows : GedlRows) → HasRows (levelled t l v) rows → (e : FlowStop) → flowing.IsFailure (flow_rules (levelled t l v)) e → IsRefusal bytes (of_flowing e)
        flow_fails rows g (flow.Rule rule line) f = inr (p, (r, inr (t, (is, inr (l, (has, inr (v, (h, inr (rows, (g, f))))))))))
        flow_fails rows g flow.NoMemory f = tt

-- ---- one verdict

no_levels_fail : (t : Typed) (l : LabelTable) (v : Levels) → HasLevels (annotated t l) v → Never (LevelsFail (annotated t l))
no_levels_fail t l v h rule line f = not_both (level_rules (annotated t l)) rule line h.holds f

same_levels : (t : Typed) (l : LabelTable) (x y : Levels) → HasLevels (annotated t l) x → HasLevels (annotated t l) y → x ≡ y
same_levels t l x y f g = one_levels (annotated t l) f.holds.0 x y f.levelled g.levelled

no_crossings_fail : (l : Levelled) (rows : GedlRows) → HasRows l rows → Never (CrossingsFail l)
no_crossings_fail l rows h rule line f = not_both (crossing_rules l) rule line h.holds f

calls_once : (l : Levelled) → Once (CallsFail l)
calls_once l = once (CrossingsFail l) (HasRows l) (λ rows. FlowFails l) (λ x y f g. one_rows l x y f g) (no_crossings_fail l) (rows.one_failure l) (λ rows h. carried.one_failure l)

division_once : (t : Typed) (l : LabelTable) → Once (DivisionFails t l)
division_once t l =
    once (LevelsFail (annotated t l)) (HasLevels (annotated t l)) (λ v. CallsFail (levelled t l v)) (same_levels t l) (no_levels_fail t l)
    (levels.one_failure (annotated t l)) (λ v h. calls_once (levelled t l v))

annotations_once : (t : Typed) → Once (AnnotationsFail t)
annotations_once t =
    once (LabellingFails t) (IsLabelled t) (DivisionFails t) (table.one_table t) (λ x h rule line f. table.one_side t (x, h) (rule, line, f))
    (table.one_failure t) (λ l h. division_once t l)

program_once : (p : Program) → Once (ProgramFails p)
program_once p =
    once (TypingFails p) (IsTyped p) AnnotationsFail (program.one_typing p) (λ x h rule line f. program.one_side p (x, h) (rule, line, f))
    (program.one_failure p) (λ t h. annotations_once t)

pub one_refusal : (bytes : List ℕ) → Once (IsRefused bytes)
one_refusal bytes =
    once (FailsFirst bytes) (ReadsWithin bytes) ProgramFails (source.one_reading bytes) (λ x h rule line f. source.one_side_only bytes (x, h) (rule, line, f))
    (source.one_failure bytes) (λ p h. program_once p)

no_call_fails : (l : Levelled) (rows : GedlRows) (f : Flow) → HasRows l rows → HasFlow l f → Never (CallsFail l)
no_call_fails l rows f h k = never (CrossingsFail l) (HasRows l) (λ r. FlowFails l) (λ x y p q. one_rows l x y p q) (no_crossings_fail l)
    rows h (λ rule line p. not_both (flow_rules l) rule line k.holds p)

pub not_refused : (bytes : List ℕ) (c : Checked) → IsAccepted bytes c → Never (IsRefused bytes)
not_refused bytes c h =
    never (FailsFirst bytes) (ReadsWithin bytes) ProgramFails (source.one_reading bytes) (λ x k rule line f. source.one_side_only bytes (x, k) (rule, line, f))
    c.typed.program h.reads
    (never (TypingFails c.typed.program) (IsTyped c.typed.program) AnnotationsFail (program.one_typing c.typed.program) (λ x k rule line f. program.one_side c.typed.program (x, k) (rule, line, f))
    c.typed h.is_typed
    (never (LabellingFails c.typed) (IsLabelled c.typed) (DivisionFails c.typed) (table.one_table c.typed) (λ x k rule line f. table.one_side c.typed (x, k) (rule, line, f))
    c.labels h.is_labelled
    (never (LevelsFail (annotated c.typed c.labels)) (HasLevels (annotated c.typed c.labels)) (λ v. CallsFail (levelled c.typed c.labels v)) (same_levels c.typed c.labels) (no_levels_fail c.typed c.labels)
    c.levels h.has_levels (no_call_fails (levelled c.typed c.labels c.levels) c.gedl c.flow h.has_rows h.has_flow))))

-- ---- one checked source

same_typed : (bytes : List ℕ) (x c : Checked) → IsAccepted bytes x → IsAccepted bytes c → x.typed ≡ c.typed
same_typed bytes x c f g =
    program.one_typing c.typed.program x.typed c.typed
    (subst (λ p. IsTyped p x.typed) (source.one_reading bytes x.typed.program c.typed.program f.reads g.reads) f.is_typed) g.is_typed

module _ (x c : Checked) (t : x.typed ≡ c.typed) where
  same_labels : IsLabelled x.typed x.labels → IsLabelled c.typed c.labels → x.labels ≡ c.labels
  same_labels f g = table.one_table c.typed x.labels c.labels (subst (λ y. IsLabelled y x.labels) t f) g

  module _ (l : x.labels ≡ c.labels) where
    levels_same : HasLevels (annotated x.typed x.labels) x.levels → HasLevels (annotated c.typed c.labels) c.levels → x.levels ≡ c.levels
    levels_same f g = same_levels c.typed c.labels x.levels c.levels
        (subst (λ y. HasLevels (annotated c.typed y) x.levels) l (subst (λ y. HasLevels (annotated y x.labels) x.levels) t f)) g

    flow_same : x.levels ≡ c.levels → HasFlow (levelled x.typed x.labels x.levels) x.flow → HasFlow (levelled c.typed c.labels c.levels) c.flow → x.flow ≡ c.flow
    flow_same v f g =
        let h : HasFlow (levelled c.typed c.labels c.levels) x.flow = subst (λ y. HasFlow (levelled c.typed c.labels y) x.flow) v (subst (λ y. HasFlow (levelled c.typed y x.levels) x.flow) l (subst (λ y. HasFlow (levelled y x.labels x.levels) x.flow) t f)) in
        carried.one_flow (levelled c.typed c.labels c.levels) x.flow c.flow h.is_flow g.is_flow

    rows_same : x.levels ≡ c.levels → HasRows (levelled x.typed x.labels x.levels) x.gedl → HasRows (levelled c.typed c.labels c.levels) c.gedl → x.gedl ≡ c.gedl
    rows_same v f g = one_rows (levelled c.typed c.labels c.levels) x.gedl c.gedl
        (subst (λ y. HasRows (levelled c.typed c.labels y) x.gedl) v (subst (λ y. HasRows (levelled c.typed y x.levels) x.gedl) l (subst (λ y. HasRows (levelled y x.labels x.levels) x.gedl) t f))) g

same_parts : (x c : Checked) → x.typed ≡ c.typed → x.labels ≡ c.labels → x.levels ≡ c.levels → x.flow ≡ c.flow → x.gedl ≡ c.gedl → x ≡ c
same_parts x c t l v f g =
    ap (λ y. record { typed = y; labels = x.labels; levels = x.levels; flow = x.flow; gedl = x.gedl }) t
    ∙ ap (λ y. record { typed = c.typed; labels = y; levels = x.levels; flow = x.flow; gedl = x.gedl }) l
    ∙ ap (λ y. record { typed = c.typed; labels = c.labels; levels = y; flow = x.flow; gedl = x.gedl }) v
    ∙ ap (λ y. record { typed = c.typed; labels = c.labels; levels = c.levels; flow = y; gedl = x.gedl }) f
    ∙ ap (λ y. record { typed = c.typed; labels = c.labels; levels = c.levels; flow = c.flow; gedl = y }) g

pub one_checked : (bytes : List ℕ) (x c : Checked) → IsAccepted bytes x → IsAccepted bytes c → x ≡ c
one_checked bytes x c f g =
    let t = same_typed bytes x c f g in
    let l = same_labels x c t f.is_labelled g.is_labelled in
    let v = levels_same x c t l f.has_levels g.has_levels in
    same_parts x c t l v (flow_same x c t l v f.has_flow g.has_flow) (rows_same x c t l v f.has_rows g.has_rows)

-- ---- what `accept` answers

module _ (bytes : List ℕ) where
  pub answer_found : (r : Result Checked FrontStop) → Verdict bytes r → IfOk r (λ c. IsAccepted bytes c)
  answer_found (Ok x) h = h
  answer_found (Err e) h = tt

  pub answer_only : (r : Result Checked FrontStop) → Verdict bytes r → (c : Checked) → IsAccepted bytes c → MatchResult r (λ x. x ≡ c) (λ e. e ≡ NoMemory)
  answer_only (Ok x) h c a = one_checked bytes x c h a
  answer_only (Err (Refused rule line)) h c a = absurd (not_refused bytes c a rule line h)
  answer_only (Err NoMemory) h c a = refl

  pub answer_fails : (r : Result Checked FrontStop) → Verdict bytes r → IfErr r (λ e. IsRefusal bytes e)
  answer_fails (Ok x) h = tt
  answer_fails (Err e) h = h

  pub answer_rule : (r : Result Checked FrontStop) → Verdict bytes r → (rule line : ℕ) → IsRefused bytes rule line
      → MatchResult r (λ x. ⊥) (λ e. (e ≡ Refused rule line) ⊎ (e ≡ NoMemory))
  answer_rule (Ok x) h rule line f = not_refused bytes x h rule line f
  answer_rule (Err (Refused r l)) h rule line f =
      let e = one_refusal bytes r l rule line h f in inl (ap (λ m. Refused m l) e.0 ∙ ap (λ m. Refused rule m) e.1)
  answer_rule (Err NoMemory) h rule line f = inr refl
