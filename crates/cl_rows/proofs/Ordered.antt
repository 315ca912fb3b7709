-- Rows in their order: one place further.
use Rattle.std.proofs.Common.{◌≡◌, ◌⊎◌, inl, inr, ⊎_elim, ◌<◌, ◌≤◌, ◌+◌, ℕ, zero, suc, List, [], ◌∷◌, ◌++◌, length, All, true, false, Result, Ok, Err, IfOk, Some, slice_get, refl, sym, ap, subst, ◌∙◌, arith}
use Rattle.std.specs.List.{Contains}
use Rattle.std.proofs.lemmas.Bool.{cases_eq}
use Rattle.std.proofs.lemmas.Option.{none-some, same_Some}
use Rattle.std.proofs.lemmas.List.Elements.{Contains-append_cases, Contains-append_left, Contains-append_right}
use Rattle.cl_mean.specs.declared.checked.GedlRow.{GedlRow}
use Rattle.cl_mean.specs.declared.checked.GedlRows.{GedlRows}
use Rattle.cl_mean.specs.declared.checked.Levels.{Levels}
use Rattle.cl_mean.specs.declared.checked.Typed.{Typed}
use Rattle.cl_mean.specs.declared.labels.LabelTable.{LabelTable}
use Rattle.cl_tree.specs.Words.{Word}
use Rattle.cl_mean.specs.Judging.{entry_for}
use Rattle.cl_mean.specs.Source.{entries_of}
use Rattle.cl_levels.specs.declared.uses.Call.{Call}
use Rattle.cl_levels.specs.Crossings.{Before, Sorted, IsRow, IsRowOf, AreRows, crossings_of, call_entry}
use Rattle.cl_levels.proofs.Each.{head_or_tail, at_head, in_none}
use Rattle.cl_calls.specs.Calls.{level_at, label_for, levelled}
use Rattle.cl_rows.proofs.Called.{small_level}
use Rattle.cl_rows.proofs.Payloads.{size_is}
use Rattle.cl_rows.specs.Rows.{IsFilled, Earlier, CallBefore, IsOf, RowsBefore}

-- ---- places

on_earlier : (a b g from to f : ℕ) → Earlier a b g from to f → Earlier a b g from to (f + 1)
on_earlier a b g from to f (inl l) = inl l
on_earlier a b g from to f (inr (e, inl l)) = inr (e, inl l)
on_earlier a b g from to f (inr (e, inr p)) = inr (e, inr (p.0, omega (arith, p.1)))

-- what stands before the next function
split : (a b g from to f : ℕ) → Earlier a b g from to (f + 1) → Earlier a b g from to f ⊎ ((a ≡ from) × ((b ≡ to) × (g ≡ f)))
split a b g from to f (inl l) = inl (inl l)
split a b g from to f (inr (e, inl l)) = inl (inr (e, inl l))
split a b g from to f (inr (e, inr p)) = by (cases_eq g f)
  where
    by : (g ≡ f) ⊎ (g ≡ f → ⊥) → Earlier a b g from to f ⊎ ((a ≡ from) × ((b ≡ to) × (g ≡ f)))
    by (inl same) = inr (e, (p.0, same))
    by (inr other) = inl (inr (e, inr (p.0, omega (arith, p.1, other))))

next_to : (a b g from to f : ℕ) → g < f → Earlier a b g from (to + 1) 0 → Earlier a b g from to f
next_to a b g from to f below (inl l) = inl l
next_to a b g from to f below (inr (e, inr p)) = absurd (omega (arith, p.1))
next_to a b g from to f below (inr (e, inl l)) = by (cases_eq b to)
  where
    by : (b ≡ to) ⊎ (b ≡ to → ⊥) → Earlier a b g from to f
    by (inl same) = inr (e, inr (same, below))
    by (inr other) = inr (e, inl (omega (arith, l, other)))

wider_to : (a b g from to f : ℕ) → Earlier a b g from to f → Earlier a b g from (to + 1) 0
wider_to a b g from to f (inl l) = inl l
wider_to a b g from to f (inr (e, inl l)) = inr (e, inl (omega (arith, l)))
wider_to a b g from to f (inr (e, inr p)) = inr (e, inl (omega (arith, p.0)))

next_from : (a b g from to : ℕ) → b < to → Earlier a b g (from + 1) 0 0 → Earlier a b g from to 0
next_from a b g from to below (inr (e, inl l)) = absurd (omega (arith, l))
next_from a b g from to below (inr (e, inr p)) = absurd (omega (arith, p.1))
next_from a b g from to below (inl l) = by (cases_eq a from)
  where
    by : (a ≡ from) ⊎ (a ≡ from → ⊥) → Earlier a b g from to 0
    by (inl same) = inr (same, inl below)
    by (inr other) = inl (omega (arith, l, other))

wider_from : (a b g from to : ℕ) → Earlier a b g from to 0 → Earlier a b g (from + 1) 0 0
wider_from a b g from to (inl l) = inl (omega (arith, l))
wider_from a b g from to (inr (e, rest)) = inl (omega (arith, e))

none_first : (a b g : ℕ) → Earlier a b g 0 0 0 → ⊥
none_first a b g (inl l) = omega (arith, l)
none_first a b g (inr (e, inl l)) = omega (arith, l)
none_first a b g (inr (e, inr p)) = omega (arith, p.1)

-- ---- one row more

in_sorted : (rows : List GedlRow) (r : GedlRow) → Sorted rows → ((s : GedlRow) → Contains rows s → Before s r) → Sorted (rows ++ r ∷ [])
in_sorted [] r h early i a b e f = absurd (none-some b f)
in_sorted (x ∷ []) r h early zero a b e f = subst (λ (z : GedlRow). Before z b) (same_Some x a e) (subst (λ (z : GedlRow). Before x z) (same_Some r b f) (early x (at_head x [])))
in_sorted (x ∷ []) r h early (suc i) a b e f = absurd (none-some b f)
in_sorted (x ∷ y ∷ rows) r h early zero a b e f = h 0 a b e f
in_sorted (x ∷ y ∷ rows) r h early (suc i) a b e f =
    in_sorted (y ∷ rows) r (λ j c d u v. h (suc j) c d u v) (λ s c. early s (suc c.0, omega (arith, c.1), c.2)) i a b e f

module _ (typed : Typed) (labels : LabelTable) (levels : Levels) (cs : List Call) where
  pub at_start : RowsBefore typed labels levels cs 0 0 0 []
  at_start = record {
    sorted = λ i r s e f. absurd (none-some r e);
    early = λ r c. absurd (in_none r c);
    sound = λ r c. absurd (in_none r c);
    complete = λ c h l. absurd (none_first (level_at levels c.caller) (level_at levels c.callee) c.callee l);
  }

  pub first_rows : (rows : List GedlRow) → rows ≡ [] → RowsBefore typed labels levels cs 0 0 0 rows
  first_rows rows e = subst (RowsBefore typed labels levels cs 0 0 0) (sym e) at_start

  pub passed_by : (from to f : ℕ) (rows : List GedlRow) → RowsBefore typed labels levels cs from to f rows
      → ((c : Call) → Contains cs c → level_at levels c.caller ≡ from → level_at levels c.callee ≡ to → c.callee ≡ f → ⊥)
      → RowsBefore typed labels levels cs from to (f + 1) rows
  passed_by from to f rows b none = record {
    sorted = b.sorted;
    early = λ r c. on_earlier r.from r.to r.function from to f (b.early r c);
    sound = b.sound;
    complete = λ c h l. ⊎_elim (λ p. b.complete c h p) (λ q. absurd (none c h q.0 q.1.0 q.1.1)) (split (level_at levels c.caller) (level_at levels c.callee) c.callee from to f l);
  }

  pub one_row : (from to f : ℕ) (rows new : List GedlRow) (r : GedlRow) (c : Call) → RowsBefore typed labels levels cs from to f rows
      → IsFilled typed labels from to f r → Contains cs c → level_at levels c.caller ≡ from → level_at levels c.callee ≡ to → c.callee ≡ f
      → new ≡ rows ++ r ∷ [] → RowsBefore typed labels levels cs from to (f + 1) new
  one_row from to f rows new r c b is there e g h eq = subst (RowsBefore typed labels levels cs from to (f + 1)) (sym eq) (record {
    sorted = in_sorted rows r b.sorted before;
    early = λ s k. ⊎_elim (λ l. on_earlier s.from s.to s.function from to f (b.early s l)) (λ o. last_early s o) (parts s k);
    sound = λ s k. ⊎_elim (λ l. b.sound s l) (λ o. subst (λ (z : GedlRow). IsFilled typed labels z.from z.to z.function z × ((d : Call) × (Contains cs d × IsOf levels d z))) o (own_filled, (c, (there, own)))) (parts s k);
    complete = λ d k l. ⊎_elim (λ p. let x = b.complete d k p in (x.0, (Contains-append_left rows (r ∷ []) x.0 x.1.0, x.1.1)))
        (λ q. (r, (Contains-append_right rows (r ∷ []) r (at_head r []), record { from = is.from_is ∙ sym q.0; to = is.to_is ∙ sym q.1.0; function = is.function_is ∙ sym q.1.1 })))
        (split (level_at levels d.caller) (level_at levels d.callee) d.callee from to f l);
  })
    where
      own : IsOf levels c r
      own = record { from = is.from_is ∙ sym e; to = is.to_is ∙ sym g; function = is.function_is ∙ sym h }

      own_filled : IsFilled typed labels r.from r.to r.function r
      own_filled = subst (λ (x : ℕ). IsFilled typed labels x r.to r.function r) (sym is.from_is)
          (subst (λ (x : ℕ). IsFilled typed labels from x r.function r) (sym is.to_is) (subst (λ (x : ℕ). IsFilled typed labels from to x r) (sym is.function_is) is))

      before : (s : GedlRow) → Contains rows s → Before s r
      before s k = subst (λ (x : ℕ). Earlier s.from s.to s.function x r.to r.function) (sym is.from_is)
          (subst (λ (x : ℕ). Earlier s.from s.to s.function from x r.function) (sym is.to_is) (subst (λ (x : ℕ). Earlier s.from s.to s.function from to x) (sym is.function_is) (b.early s k)))

      parts : (s : GedlRow) → Contains (rows ++ r ∷ []) s → Contains rows s ⊎ (r ≡ s)
      parts s k = ⊎_elim (λ (l : Contains rows s). inl l)
          (λ (m : Contains (r ∷ []) s). ⊎_elim (λ (o : r ≡ s). inr o) (λ (z : Contains [] s). absurd (in_none s z)) (head_or_tail r s [] m)) (Contains-append_cases rows (r ∷ []) s k)

      last_early : (s : GedlRow) → r ≡ s → Earlier s.from s.to s.function from to (f + 1)
      last_early s o = subst (λ (z : GedlRow). Earlier z.from z.to z.function from to (f + 1)) o (inr (is.from_is, inr (is.to_is, omega (arith, is.function_is))))

  pub to_next : (from to f : ℕ) (rows : List GedlRow) → ((c : Call) → Contains cs c → c.callee < f) → RowsBefore typed labels levels cs from to f rows → RowsBefore typed labels levels cs from (to + 1) 0 rows
  to_next from to f rows below b = record {
    sorted = b.sorted;
    early = λ r c. wider_to r.from r.to r.function from to f (b.early r c);
    sound = b.sound;
    complete = λ c h l. b.complete c h (next_to (level_at levels c.caller) (level_at levels c.callee) c.callee from to f (below c h) l);
  }

  pub from_next : (from to : ℕ) (rows : List GedlRow) → ((c : Call) → Contains cs c → level_at levels c.callee < to) → RowsBefore typed labels levels cs from to 0 rows → RowsBefore typed labels levels cs (from + 1) 0 0 rows
  from_next from to rows below b = record {
    sorted = b.sorted;
    early = λ r c. wider_from r.from r.to r.function from to (b.early r c);
    sound = b.sound;
    complete = λ c h l. b.complete c h (next_from (level_at levels c.caller) (level_at levels c.callee) c.callee from to (below c h) l);
  }

-- ---- all rows

abbrev pub whole : LabelTable → Levels → List GedlRow → GedlRows
whole labels levels rows = record { levels = labels.levels; main = levels.main; rows = rows }

module _ (typed : Typed) (labels : LabelTable) (levels : Levels) (cs : List Call) (are : cs ≡ crossings_of (levelled typed labels levels)) where
  one_is : (r : GedlRow) → IsFilled typed labels r.from r.to r.function r × ((c : Call) × (Contains cs c × IsOf levels c r)) → IsRow (levelled typed labels levels) r
  one_is r (is, (c, (there, of))) =
      let e : entry_for (entries_of (label_for labels r.function)) r.from ≡ entry_for (entries_of (label_for labels c.callee)) (level_at levels c.caller) =
      ap (λ (f : ℕ). entry_for (entries_of (label_for labels f)) r.from) of.function ∙ ap (λ (n : ℕ). entry_for (entries_of (label_for labels c.callee)) n) of.from in
      record {
        call = (c, (subst (λ xs. Contains xs c) are there, (record { from = of.from; to = of.to; function = of.function }, (is.entry.0, (sym e ∙ is.entry.1.0, is.entry.1.1)))));
        signature = is.signature;
        label = is.label;
        request = is.request ∙ size_is typed labels levels r.function false;
        reply = is.reply ∙ size_is typed labels levels r.function true;
      }

  pub all_rows : (rows : List GedlRow) → All (λ n. n < 32) levels.of_functions → RowsBefore typed labels levels cs 32 0 0 rows → AreRows (levelled typed labels levels) (whole labels levels rows)
  all_rows rows small b = record {
    levels = refl;
    main = refl;
    sorted = b.sorted;
    sound = λ r c. one_is r (b.sound r c);
    complete = λ c h. let found = b.complete c (subst (λ xs. Contains xs c) (sym are) h) (inl (small_level levels c.caller small)) in
        (found.0, (found.1.0, record { from = found.1.1.from; to = found.1.1.to; function = found.1.1.function }));
  }

  abbrev three : List Word → ℕ → List GedlRow → GedlRows
  three levels main rows = record { levels = levels; main = main; rows = rows }

  pub put_together : {E : Type 0} (result : Result GedlRows E) (rows : List GedlRow) → All (λ n. n < 32) levels.of_functions → RowsBefore typed labels levels cs 32 0 0 rows
      → IfOk result (λ all. all.levels ≡ labels.levels) → IfOk result (λ all. all.main ≡ levels.main) → IfOk result (λ all. all.rows ≡ rows)
      → IfOk result (λ all. AreRows (levelled typed labels levels) all)
  put_together (Err x) rows small b p q r = p
  put_together (Ok all) rows small b p q r =
      subst (AreRows (levelled typed labels levels))
      (sym (ap (λ x. three x all.main all.rows) p ∙ ap (λ x. three labels.levels x all.rows) q ∙ ap (λ x. three labels.levels levels.main x) r)) (all_rows rows small b)
