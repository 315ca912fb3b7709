-- The least line where a rule fails.
use Rattle.std.proofs.Common.{◌≡◌, ◌<◌, ◌+◌, ◌⊎◌, inl, inr, ⊎_elim, ℕ, List, [], ◌∷◌, ◌++◌, append_assoc, Option, Some, None, length, take, get_or, refl, sym, ap, subst, ◌∙◌, add-one, arith}
use Rattle.std.specs.List.{Contains, flat_map}
use Rattle.std.proofs.lemmas.List.{append-nil}
use Rattle.std.proofs.Math.Seq.{take-suc}
use Rattle.std.proofs.lemmas.List.Elements.{Contains-append_left, Contains-append_right, Contains-append_cases}
use Rattle.cl_groups.specs.Marks.{IsLeast, lesser_of}
use Rattle.cl_groups.proofs.Borne.{least_of_either, same_least}
use Rattle.cl_levels.specs.Crossings.{Levelled}
use Rattle.cle_ways.specs.declared.ways.Body.{Body}
use Rattle.cle_ways.specs.declared.ways.Bound.{Bound}
use Rattle.cle_ways.specs.declared.ways.Note.{Note}
use Rattle.cle_ways.specs.declared.ways.Note.TheVariants.{Flows, Bounds}
use Rattle.cle_ways.specs.declared.ways.Way.{Way}
use Rattle.cle_ways.specs.Flow.{Exceeds}
use Rattle.cle_table.proofs.Graphs.{none, one, first}
use Rattle.cle_flow.specs.Judged.{Broken}

module _ (l : Levelled) (rule : ℕ) where
  pub nothing_broken : IsLeast (Broken l rule []) None
  nothing_broken = λ n h. none (Bounds h.0) h.1.0

  -- ---- one note

  pub way_holds : (w : Way) → IsLeast (Broken l rule (Flows w ∷ [])) None
  way_holds w = λ n h. apart h.0 (one (Flows w) (Bounds h.0) h.1.0)
    where
      apart : (b : Bound) → Flows w ≡ Bounds b → ⊥
      apart b e = absurd (cc)

  same_bound : (b c : Bound) → Bounds b ≡ Bounds c → b ≡ c
  same_bound b c e = cc

  pub bound_broken : (b : Bound) → b.rule ≡ rule → Exceeds l b → IsLeast (Broken l rule (Bounds b ∷ [])) (Some b.line)
  bound_broken b r e = (
    (b, (first (Bounds b) [], (r, (refl, e)))),
    (λ n h. let s : b ≡ h.0 = same_bound b h.0 (one (Bounds b) (Bounds h.0) h.1.0) in
        let q : b.line ≡ n = ap (λ (c : Bound). c.line) s ∙ h.1.1.1.0 in omega (arith, q)),
  )

  pub bound_holds : (b : Bound) → (b.rule ≡ rule → Exceeds l b → ⊥) → IsLeast (Broken l rule (Bounds b ∷ [])) None
  bound_holds b f = λ n h. let s : b ≡ h.0 = same_bound b h.0 (one (Bounds b) (Bounds h.0) h.1.0) in
      f (ap (λ (c : Bound). c.rule) s ∙ h.1.1.0) (subst (λ (c : Bound). Exceeds l c) (sym s) h.1.1.1.1)

  -- ---- more notes

  pub least_append : (ns ms : List Note) (a b : Option ℕ) → IsLeast (Broken l rule ns) a → IsLeast (Broken l rule ms) b → IsLeast (Broken l rule (ns ++ ms)) (lesser_of a b)
  least_append ns ms a b h k = same_least (λ n. Broken l rule ns n ⊎ Broken l rule ms n) (Broken l rule (ns ++ ms)) into from (lesser_of a b) (least_of_either (Broken l rule ns) (Broken l rule ms) a b h k)
    where
      into : (n : ℕ) → Broken l rule ns n ⊎ Broken l rule ms n → Broken l rule (ns ++ ms) n
      into n (inl q) = (q.0, (Contains-append_left ns ms (Bounds q.0) q.1.0, q.1.1))
      into n (inr q) = (q.0, (Contains-append_right ns ms (Bounds q.0) q.1.0, q.1.1))

      from : (n : ℕ) → Broken l rule (ns ++ ms) n → Broken l rule ns n ⊎ Broken l rule ms n
      from n q = ⊎_elim (λ (c : Contains ns (Bounds q.0)). inl (q.0, (c, q.1.1))) (λ (c : Contains ms (Bounds q.0)). inr (q.0, (c, q.1.1))) (Contains-append_cases ns ms (Bounds q.0) q.1.0)

  pub note_more : (ns : List Note) (i : ℕ) (n : Note) (a b : Option ℕ) → i < length ns → n ≡ get_or ns i n → IsLeast (Broken l rule (take i ns)) a
      → IsLeast (Broken l rule (n ∷ [])) b → IsLeast (Broken l rule (take (i + 1) ns)) (lesser_of a b)
  note_more ns i n a b h e f g =
      let taken : take (i + 1) ns ≡ take i ns ++ n ∷ [] = ap (λ k. take k ns) (add-one i) ∙ (take-suc ns i n h ∙ ap (λ (p : Note). take i ns ++ p ∷ []) (sym e)) in
      subst (λ (ps : List Note). IsLeast (Broken l rule ps) (lesser_of a b)) (sym taken) (least_append (take i ns) (n ∷ []) a b f g)

  pub body_more : (fs : List Body) (i : ℕ) (f : Body) (a b : Option ℕ) → i < length fs → f ≡ get_or fs i f → IsLeast (Broken l rule (flat_map (λ c. c.notes) (take i fs))) a
      → IsLeast (Broken l rule f.notes) b → IsLeast (Broken l rule (flat_map (λ c. c.notes) (take (i + 1) fs))) (lesser_of a b)
  body_more fs i f a b h e p q =
      let taken : take (i + 1) fs ≡ take i fs ++ f ∷ [] = ap (λ k. take k fs) (add-one i) ∙ (take-suc fs i f h ∙ ap (λ (g : Body). take i fs ++ g ∷ []) (sym e)) in
      subst (λ (ns : List Note). IsLeast (Broken l rule ns) (lesser_of a b)) (sym (ap (λ gs. flat_map (λ c. c.notes) gs) taken ∙ pushed (take i fs)))
      (least_append (flat_map (λ c. c.notes) (take i fs)) f.notes a b p q)
    where
      pushed : (gs : List Body) → flat_map (λ c. c.notes) (gs ++ f ∷ []) ≡ flat_map (λ c. c.notes) gs ++ f.notes
      pushed [] = append-nil f.notes
      pushed (g ∷ gs) = ap (λ ns. g.notes ++ ns) (pushed gs) ∙ sym (append_assoc g.notes (flat_map (λ c. c.notes) gs) f.notes)
