-- A program has one list of rows.
use Rattle.std.proofs.Common.{◌≡◌, ◌⊎◌, inl, inr, ⊎_elim, ◌<◌, ℕ, zero, suc, List, [], ◌∷◌, Bool, true, false, Option, Some, None, slice_get, Result, Ok, Err, IfOk, refl, sym, ap, subst, ◌∙◌, arith}
use Rattle.std.specs.List.{Contains}
use Rattle.std.proofs.lemmas.Option.{none-some, same_Some}
use Rattle.cl_tree.specs.declared.tree.CType.{CType}
use Rattle.cl_tree.specs.Words.{Word}
use Rattle.cl_mean.specs.declared.checked.GedlArg.{GedlArg}
use Rattle.cl_mean.specs.declared.checked.GedlRow.{GedlRow}
use Rattle.cl_mean.specs.declared.checked.GedlRows.{GedlRows}
use Rattle.cl_mean.specs.declared.labels.Entry.{Entry}
use Rattle.cl_mean.specs.declared.labels.LabelFact.{LabelFact}
use Rattle.cl_mean.specs.declared.labels.Operation.{Operation}
use Rattle.cl_mean.specs.Judging.{entry_for}
use Rattle.cl_mean.specs.Source.{entries_of}
use Rattle.cl_labelling.specs.Fits.{Signature}
use Rattle.cl_levels.specs.Crossings.{Levelled, level_of, label_fact, signatures_at, payload_bytes, Before, Sorted, IsRow, IsRowOf, AreRows, args_of, call_entry}
use Rattle.cl_levels.proofs.Each.{head_or_tail, at_head, in_tail, in_none}

-- ---- the order of rows

then : (a b c : GedlRow) → Before a b → Before b c → Before a c
then a b c (inl p) (inl q) = inl (omega (arith, p, q))
then a b c (inl p) (inr q) = inl (omega (arith, p, q.0))
then a b c (inr p) (inl q) = inl (omega (arith, p.0, q))
then a b c (inr p) (inr q) = inr (p.0 ∙ q.0, by p.1 q.1)
  where
    by : (a.to < b.to) ⊎ ((a.to ≡ b.to) × (a.function < b.function)) → (b.to < c.to) ⊎ ((b.to ≡ c.to) × (b.function < c.function))
        → (a.to < c.to) ⊎ ((a.to ≡ c.to) × (a.function < c.function))
    by (inl x) (inl y) = inl (omega (arith, x, y))
    by (inl x) (inr y) = inl (omega (arith, x, y.0))
    by (inr x) (inl y) = inl (omega (arith, x.0, y))
    by (inr x) (inr y) = inr (x.0 ∙ y.0, omega (arith, x.1, y.1))

never : (a : GedlRow) → Before a a → ⊥
never a (inl p) = omega (arith, p)
never a (inr p) = by p.1
  where
    by : (a.to < a.to) ⊎ ((a.to ≡ a.to) × (a.function < a.function)) → ⊥
    by (inl x) = omega (arith, x)
    by (inr x) = omega (arith, x.1)

behind : (r : GedlRow) (rs : List GedlRow) → Sorted (r ∷ rs) → Sorted rs
behind r rs h i a b e f = h (suc i) a b e f

all_behind : (r : GedlRow) (rs : List GedlRow) → Sorted (r ∷ rs) → (s : GedlRow) → Contains rs s → Before r s
all_behind r [] h s c = absurd (in_none s c)
all_behind r (x ∷ xs) h s c =
    let first : Before r x = h 0 r x refl refl in
    ⊎_elim (λ (e : x ≡ s). subst (λ (y : GedlRow). Before r y) e first)
    (λ (l : Contains xs s). then r x s first (all_behind x xs (behind r (x ∷ xs) h) s l)) (head_or_tail x s xs c)

-- two sorted lists of the same rows
same_rows : (xs ys : List GedlRow) → Sorted xs → Sorted ys → ((r : GedlRow) → Contains xs r → Contains ys r) → ((r : GedlRow) → Contains ys r → Contains xs r) → xs ≡ ys
same_rows [] [] p q into from = refl
same_rows [] (y ∷ ys) p q into from = absurd (in_none y (from y (at_head y ys)))
same_rows (x ∷ xs) [] p q into from = absurd (in_none x (into x (at_head x xs)))
same_rows (x ∷ xs) (y ∷ ys) p q into from =
    let e : x ≡ y = heads (head_or_tail y x ys (into x (at_head x xs))) (head_or_tail x y xs (from y (at_head y ys))) in
    ap (λ (z : GedlRow). z ∷ xs) e ∙ ap (λ (zs : List GedlRow). y ∷ zs) (same_rows xs ys (behind x xs p) (behind y ys q) (tails e) (other_tails e))
  where
    heads : (y ≡ x) ⊎ Contains ys x → (x ≡ y) ⊎ Contains xs y → x ≡ y
    heads (inl e) b = sym e
    heads (inr a) (inl e) = e
    heads (inr a) (inr b) = absurd (never x (then x y x (all_behind x xs p y b) (all_behind y ys q x a)))

    tails : x ≡ y → (r : GedlRow) → Contains xs r → Contains ys r
    tails e r c = ⊎_elim (λ (f : y ≡ r). absurd (never x (subst (λ (z : GedlRow). Before x z) (sym (e ∙ f)) (all_behind x xs p r c)))) (λ (l : Contains ys r). l)
        (head_or_tail y r ys (into r (in_tail x r xs c)))

    other_tails : x ≡ y → (r : GedlRow) → Contains ys r → Contains xs r
    other_tails e r c = ⊎_elim (λ (f : x ≡ r). absurd (never y (subst (λ (z : GedlRow). Before y z) (sym (sym e ∙ f)) (all_behind y ys q r c)))) (λ (l : Contains xs r). l)
        (head_or_tail x r xs (from r (in_tail y r ys c)))

-- ---- what a row says is settled by its levels and its function

abbrev row : ℕ → ℕ → ℕ → Word → Word → Operation → List GedlArg → CType → ℕ → ℕ → Bool → GedlRow
row from to function name label operation args result request reply oneway = record {
  from = from;
  to = to;
  function = function;
  name = name;
  label = label;
  operation = operation;
  args = args;
  result = result;
  request = request;
  reply = reply;
  oneway = oneway;
}

whole : (r : GedlRow) → r ≡ row r.from r.to r.function r.name r.label r.operation r.args r.result r.request r.reply r.oneway
whole r = refl

both_some : {A : Type 0} (o : Option A) (x y : A) → o ≡ Some x → o ≡ Some y → x ≡ y
both_some o x y e f = same_Some x y (sym e ∙ f)

module _ (l : Levelled) where
  same_row : (r s : GedlRow) → IsRow l r → IsRow l s → r.from ≡ s.from → r.to ≡ s.to → r.function ≡ s.function → r ≡ s
  same_row r s p q from to function =
      let e : p.call.1.1.1.0 ≡ q.call.1.1.1.0 = both_some (call_entry l p.call.0) p.call.1.1.1.0 q.call.1.1.1.0 p.call.1.1.1.1.0 (entries ∙ q.call.1.1.1.1.0) in
      let g : p.signature.0 ≡ q.signature.0 = both_some (slice_get (signatures_at l.annotated r.function) 0) p.signature.0 q.signature.0 p.signature.1.0
      (ap (λ (f : ℕ). slice_get (signatures_at l.annotated f) 0) function ∙ q.signature.1.0) in
      let f : p.label.0 ≡ q.label.0 = both_some (label_fact l r.function) p.label.0 q.label.0 p.label.1.0 (ap (label_fact l) function ∙ q.label.1.0) in
      ap (λ x. row x r.to r.function r.name r.label r.operation r.args r.result r.request r.reply r.oneway) from
      ∙ ap (λ x. row s.from x r.function r.name r.label r.operation r.args r.result r.request r.reply r.oneway) to
      ∙ ap (λ x. row s.from s.to x r.name r.label r.operation r.args r.result r.request r.reply r.oneway) function
      ∙ ap (λ x. row s.from s.to s.function x r.label r.operation r.args r.result r.request r.reply r.oneway) (p.signature.1.1.0 ∙ ap (λ (x : Signature). x.name) g ∙ sym q.signature.1.1.0)
      ∙ ap (λ x. row s.from s.to s.function s.name x r.operation r.args r.result r.request r.reply r.oneway) (p.label.1.1 ∙ ap (λ (x : LabelFact). x.name) f ∙ sym q.label.1.1)
      ∙ ap (λ x. row s.from s.to s.function s.name s.label x r.args r.result r.request r.reply r.oneway) (p.call.1.1.1.1.1.0 ∙ ap (λ (x : Entry). x.operation) e ∙ sym q.call.1.1.1.1.1.0)
      ∙ ap (λ x. row s.from s.to s.function s.name s.label s.operation x r.result r.request r.reply r.oneway) (p.signature.1.1.1.0 ∙ ap (λ (x : Signature). args_of x.params) g ∙ sym q.signature.1.1.1.0)
      ∙ ap (λ x. row s.from s.to s.function s.name s.label s.operation s.args x r.request r.reply r.oneway) (p.signature.1.1.1.1 ∙ ap (λ (x : Signature). x.result) g ∙ sym q.signature.1.1.1.1)
      ∙ ap (λ x. row s.from s.to s.function s.name s.label s.operation s.args s.result x r.reply r.oneway) (p.request ∙ ap (λ (f : ℕ). payload_bytes l.annotated f false) function ∙ sym q.request)
      ∙ ap (λ x. row s.from s.to s.function s.name s.label s.operation s.args s.result s.request x r.oneway) (p.reply ∙ ap (λ (f : ℕ). payload_bytes l.annotated f true) function ∙ sym q.reply)
      ∙ ap (λ x. row s.from s.to s.function s.name s.label s.operation s.args s.result s.request s.reply x) (p.call.1.1.1.1.1.1 ∙ ap (λ (x : Entry). x.oneway) e ∙ sym q.call.1.1.1.1.1.1)
    where
      callees : p.call.0.callee ≡ q.call.0.callee
      callees = sym p.call.1.1.0.function ∙ function ∙ q.call.1.1.0.function

      callers : level_of l p.call.0.caller ≡ level_of l q.call.0.caller
      callers = sym p.call.1.1.0.from ∙ from ∙ q.call.1.1.0.from

      entries : call_entry l p.call.0 ≡ call_entry l q.call.0
      entries = ap (λ (f : ℕ). entry_for (entries_of (label_fact l f)) (level_of l p.call.0.caller)) callees
          ∙ ap (λ (n : ℕ). entry_for (entries_of (label_fact l q.call.0.callee)) n) callers

  in_other : (rows others : GedlRows) → AreRows l rows → AreRows l others → (r : GedlRow) → Contains rows.rows r → Contains others.rows r
  in_other rows others p q r c =
      let is : IsRow l r = p.sound r c in
      let found : (s : GedlRow) × (Contains others.rows s × IsRowOf l is.call.0 s) = q.complete is.call.0 is.call.1.0 in
      subst (λ (x : GedlRow). Contains others.rows x)
      (same_row found.0 r (q.sound found.0 found.1.0) is (found.1.1.from ∙ sym is.call.1.1.0.from) (found.1.1.to ∙ sym is.call.1.1.0.to) (found.1.1.function ∙ sym is.call.1.1.0.function))
      found.1.0

  pub only_rows : (rows others : GedlRows) → AreRows l rows → AreRows l others → rows ≡ others
  only_rows rows others p q =
      ap (λ x. all x rows.main rows.rows) (p.levels ∙ sym q.levels) ∙ ap (λ x. all others.levels x rows.rows) (p.main ∙ sym q.main)
      ∙ ap (λ x. all others.levels others.main x) (same_rows rows.rows others.rows p.sorted q.sorted (in_other rows others p q) (in_other others rows q p))
    where
      all : List Word → ℕ → List GedlRow → GedlRows
      all levels main rows = record { levels = levels; main = main; rows = rows }

  pub answer_only : {E : Type 0} (result : Result GedlRows E) → IfOk result (λ r. AreRows l r) → (r : GedlRows) → AreRows l r → IfOk result (λ x. x ≡ r)
  answer_only (Ok x) is r are = only_rows x r is are
  answer_only (Err e) is r are = is
