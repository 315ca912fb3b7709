-- One number more is marked; and the rule on wide payloads, by marks.
use Rattle.std.proofs.Common.{◌≡◌, ℕ, zero, suc, ◌+◌, ◌<◌, ◌≤◌, ◌⊎◌, inl, inr, ⊎_elim, List, [], ◌∷◌, ◌++◌, map, drop, drop-cons, add-one, take, length, Bool, true, false, not, ◌&&◌, ◌||◌, ◌==◌, replicate, slice_index_or, slice_set, eq-eqb, ne_eqb, refl, sym, ap, subst, ◌∙◌, arith}
use Rattle.std.specs.List.{Contains, list_any}
use Rattle.std.proofs.lemmas.Bool.{cases_eq, false≢true}
use Rattle.std.proofs.Math.Bool.{or-true}
use Rattle.std.proofs.lemmas.List.{get_or-set_other, get_or-set_same, drop_all, take_all, length-set}
use Rattle.std.proofs.lemmas.List.Elements.{Contains-append_cases, Contains-append_left, Contains-append_right}
use Rattle.cl_mean.specs.declared.checked.FnFact.{FnFact}
use Rattle.cl_mean.specs.declared.checked.Typed.{Typed}
use Rattle.cl_mean.specs.Shape.{Structs, structs_of}
use Rattle.cl_typing.specs.Rules.{Lines, unless}
use Rattle.cl_levels.specs.declared.uses.Call.{Call}
use Rattle.cl_levels.proofs.Each.{head_or_tail, at_head, in_tail, in_none}
use Rattle.cl_calls.specs.Signatures.{signatures_in}
use Rattle.cl_rows.specs.Marks.{AreMarks, IsBlank, MarksBefore}
use Rattle.cl_rows.specs.Wide.{is_wide_in, wide_in, wide_by, too_wide_in}

abbrev pub no_call : Call
no_call = record { caller = 0; callee = 0; line = 0 }

no_mark : (n k : ℕ) → slice_index_or (replicate n false) k false ≡ true → ⊥
no_mark zero k h = false≢true h
no_mark (suc n) zero h = false≢true h
no_mark (suc n) (suc k) h = no_mark n k h

so_many : (n : ℕ) → length (replicate n false) ≡ n
so_many zero = refl
so_many (suc n) = ap suc (so_many n)

pub none_marked : (n : ℕ) (marks : List Bool) → marks ≡ replicate n false → IsBlank n marks
none_marked n marks e =
    (ap length e ∙ so_many n, λ k. (λ h. absurd (no_mark n k (subst (λ bs. slice_index_or bs k false ≡ true) e h)), λ c. absurd (in_none k c)))

map_next : (of : Call → ℕ) (cs : List Call) (i : ℕ) (d : Call) → i < length cs → map of (take (suc i) cs) ≡ map of (take i cs) ++ of (slice_index_or cs i d) ∷ []
map_next of [] i d l = absurd (omega arith)
map_next of (y ∷ ys) zero d l = refl
map_next of (y ∷ ys) (suc i) d l = ap (λ zs. of y ∷ zs) (map_next of ys i d (omega arith))

one_marked : (seen : List ℕ) (x : ℕ) (marks : List Bool) → x < length marks → AreMarks seen marks → AreMarks (seen ++ x ∷ []) (slice_set marks x true)
one_marked seen x marks within are k = by (cases_eq k x)
  where
    last : Contains (x ∷ []) k → (k ≡ x → ⊥) → ⊥
    last r other = ⊎_elim (λ (e : x ≡ k). other (sym e)) (λ (z : Contains [] k). in_none k z) (head_or_tail x k [] r)

    by : (k ≡ x) ⊎ (k ≡ x → ⊥) → (slice_index_or (slice_set marks x true) k false ≡ true → Contains (seen ++ x ∷ []) k) × (Contains (seen ++ x ∷ []) k → slice_index_or (slice_set marks x true) k false ≡ true)
    by (inl e) = (
      λ h. subst (λ (n : ℕ). Contains (seen ++ x ∷ []) n) (sym e) (Contains-append_right seen (x ∷ []) x (at_head x [])),
      λ c. subst (λ (n : ℕ). slice_index_or (slice_set marks x true) n false ≡ true) (sym e) (get_or-set_same marks x true false within),
    )
    by (inr other) = (
      λ h. Contains-append_left seen (x ∷ []) k ((are k).0 (sym (get_or-set_other marks x k true false other) ∙ h)),
      λ c. get_or-set_other marks x k true false other ∙ ⊎_elim (λ (l : Contains seen k). (are k).1 l) (λ (r : Contains (x ∷ []) k). absurd (last r other)) (Contains-append_cases seen (x ∷ []) k c),
    )

pub next_marked : (of : Call → ℕ) (cs : List Call) (i : ℕ) (d : Call) (count k : ℕ) (old new : List Bool) → i < length cs → k < count → k ≡ of (slice_index_or cs i d)
    → new ≡ slice_set old k true → MarksBefore of (take i cs) count old → MarksBefore of (take (i + 1) cs) count new
next_marked of cs i d count k old new within small is e before =
    rw (e, add-one i, map_next of cs i d within, sym is)
    (length-set old k true ∙ before.0, one_marked (map of (take i cs)) k old (subst (λ n. k < n) (sym before.0) small) before.1)

pub all_marked : (of : Call → ℕ) (cs : List Call) (i count : ℕ) (marks : List Bool) → length cs ≤ i → MarksBefore of (take i cs) count marks → AreMarks (map of cs) marks
all_marked of cs i count marks past before = subst (λ ds. AreMarks (map of ds) marks) (take_all i cs past) before.1

-- ---- who is called

any_there : (f : ℕ) (cs : List Call) → list_any (λ c. c.callee == f) cs ≡ true → Contains (map (λ c. c.callee) cs) f
any_there f [] h = absurd (false≢true h)
any_there f (c ∷ cs) h =
    ⊎_elim (λ (e : c.callee ≡ f). subst (λ (n : ℕ). Contains (c.callee ∷ map (λ c. c.callee) cs) n) e (at_head c.callee (map (λ c. c.callee) cs)))
    (λ (o : c.callee ≡ f → ⊥). in_tail c.callee f (map (λ c. c.callee) cs) (any_there f cs (subst (λ (b : Bool). (b || list_any (λ c. c.callee == f) cs) ≡ true) (ne_eqb c.callee f o) h)))
    (cases_eq c.callee f)

module _ (cs : List Call) where
  any_is : (f : ℕ) → Contains (map (λ c. c.callee) cs) f → list_any (λ c. c.callee == f) cs ≡ true
  any_is f h = go cs h
    where
      go : (cs : List Call) → Contains (map (λ c. c.callee) cs) f → list_any (λ c. c.callee == f) cs ≡ true
      go [] h = absurd (in_none f h)
      go (c ∷ cs) h = ⊎_elim (λ (e : c.callee ≡ f). rw (eq-eqb c.callee f e) refl)
          (λ (r : Contains (map (λ c. c.callee) cs) f). rw (go cs r) (or-true (c.callee == f))) (head_or_tail c.callee f (map (λ c. c.callee) cs) h)

  is_any : (f : ℕ) → list_any (λ c. c.callee == f) cs ≡ true → Contains (map (λ c. c.callee) cs) f
  is_any f h = any_there f cs h

  pub called_is : (called : List Bool) (f : ℕ) → AreMarks (map (λ c. c.callee) cs) called → slice_index_or called f false ≡ list_any (λ c. c.callee == f) cs
  called_is called f are = by (slice_index_or called f false) (list_any (λ c. c.callee == f) cs) (λ h. any_is f ((are f).0 h)) (λ h. (are f).1 (is_any f h))
    where
      by : (a b : Bool) → (a ≡ true → b ≡ true) → (b ≡ true → a ≡ true) → a ≡ b
      by true b f g = sym (f refl)
      by false true f g = g refl
      by false false f g = refl

-- ---- the rule

pub next_fact : (structs : Structs) (typed : Typed) (called : List Bool) (facts : List FnFact) (f : ℕ) (fact : FnFact) → f < length facts → fact ≡ slice_index_or facts f fact
    → wide_by structs typed called f (drop f facts)
    ≡ unless (not (is_wide_in structs (signatures_in typed f) && slice_index_or called f false)) fact.line ++ wide_by structs typed called (f + 1) (drop (f + 1) facts)
unfolding wide_by
next_fact structs typed called facts f fact l is =
    rw (add-one f) (ap (wide_by structs typed called f) (drop-cons facts f fact l ∙ ap (λ x. x ∷ drop (suc f) facts) (sym is)))

pub no_fact_left : (structs : Structs) (typed : Typed) (called : List Bool) (facts : List FnFact) (f : ℕ) → length facts ≤ f → wide_by structs typed called f (drop f facts) ≡ []
unfolding wide_by
no_fact_left structs typed called facts f past = ap (wide_by structs typed called f) (drop_all f facts past)

pub by_marks : (structs : Structs) (typed : Typed) (cs : List Call) (called : List Bool) → structs ≡ structs_of typed.program.items → AreMarks (map (λ c. c.callee) cs) called
    → wide_by structs typed called 0 typed.functions ≡ too_wide_in typed cs
unfolding wide_by wide_in too_wide_in
by_marks structs typed cs called same are = go 0 typed.functions
  where
    go : (f : ℕ) (facts : List FnFact) → wide_by structs typed called f facts ≡ wide_in typed cs f facts
    go f [] = refl
    go f (fact ∷ facts) = rw (same, called_is cs called f are, sym same, go (suc f) facts, same) refl
