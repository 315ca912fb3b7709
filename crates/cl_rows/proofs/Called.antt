-- Which level calls which function.
use Rattle.std.proofs.Common.{◌≡◌, ◌↔◌, ◌<◌, ◌≤◌, ◌+◌, ◌*◌, ◌⊎◌, inl, inr, ⊎_elim, ℕ, zero, suc, List, [], ◌∷◌, map, All, length, Bool, true, false, ◌&&◌, ◌==◌, IsTrue, slice_index_or, eq-eqb, ne_eqb, refl, sym, ap, subst, ◌∙◌, arith}
use Rattle.std.specs.List.{Contains}
use Rattle.std.proofs.lemmas.Bool.{and_parts, cases_lt, cases_eq, false≢true}
use Rattle.std.proofs.lemmas.List.{get_or_past}
use Rattle.std.proofs.lemmas.List.Elements.{All-contains}
use Rattle.cl_mean.specs.declared.checked.Levels.{Levels}
use Rattle.cl_levels.specs.declared.uses.Call.{Call}
use Rattle.cl_levels.proofs.Each.{head_or_tail, at_head, in_tail, in_none}
use Rattle.cl_groups.proofs.Limits.{all_from}
use Rattle.cl_calls.specs.Calls.{level_at}
use Rattle.cl_rows.specs.declared.rows.Table.{Table}
use Rattle.cl_rows.specs.Marks.{number, numbers_of}
use Rattle.cl_rows.specs.Rows.{IsReady}
use Rattle.cl_rows.specs.Table.{IsTable, Calls}

from_map : {A : Type 0} (g : A → ℕ) (xs : List A) (y : ℕ) → Contains (map g xs) y → (x : A) × (Contains xs x × (g x ≡ y))
from_map g [] y h = absurd (in_none y h)
from_map {A} g (x ∷ xs) y h =
    ⊎_elim (λ (e : g x ≡ y). (x, (at_head x xs, e)))
    (λ (r : Contains (map g xs) y). let b = from_map g xs y r in (b.0, (in_tail x b.0 xs b.1.0, b.1.1))) (head_or_tail (g x) y (map g xs) h)

to_map : {A : Type 0} (g : A → ℕ) (xs : List A) (x : A) → Contains xs x → Contains (map g xs) (g x)
to_map g [] x h = absurd (in_none x h)
to_map {A} g (y ∷ ys) x h =
    ⊎_elim (λ (e : y ≡ x). subst (λ (z : A). Contains (g y ∷ map g ys) (g z)) e (at_head (g y) (map g ys)))
    (λ (r : Contains ys x). in_tail (g y) (g x) (map g ys) (to_map g ys x r)) (head_or_tail y x ys h)

pub small_level : (levels : Levels) (f : ℕ) → All (λ n. n < 32) levels.of_functions → level_at levels f < 32
small_level levels f all = by (cases_lt f (length levels.of_functions))
  where
    by : (f < length levels.of_functions) ⊎ (length levels.of_functions ≤ f) → level_at levels f < 32
    by (inl l) = all f 0 l
    by (inr past) = let e : level_at levels f ≡ 0 = get_or_past levels.of_functions f 0 past in omega arith

same_parts : (a b f l : ℕ) → b < 32 → l < 32 → a * 32 + b ≡ f * 32 + l → (a ≡ f) × (b ≡ l)
same_parts a b f l p q e = (omega (arith, p, q, e), omega (arith, p, q, e))

is_same : (a b : ℕ) → (a == b) ≡ true → a ≡ b
is_same a b h = ⊎_elim (λ (e : a ≡ b). e) (λ (o : a ≡ b → ⊥). absurd (false≢true (sym (ne_eqb a b o) ∙ h))) (cases_eq a b)

module _ (t : Table) (is : IsTable t) where
  pub called_there : (from to f : ℕ) (r a b : Bool) → from < 32 → r ≡ (a && b) → a ≡ (level_at t.levels.now f == to) → b ≡ slice_index_or t.callers.now (f * 32 + from) false
      → IsTrue r ↔ Calls t from to f
  called_there from to f r a b small e ea eb = (into, back)
    where
      into : r ≡ true → Calls t from to f
      into h =
          let p = and_parts a b (sym e ∙ h) in
          let there = from_map (number t.levels.now) t.crossings.now (f * 32 + from) ((is.marks (f * 32 + from)).0 (sym eb ∙ p.1)) in
          let s = same_parts there.0.callee (level_at t.levels.now there.0.caller) f from (small_level t.levels.now there.0.caller is.levels) small there.1.1 in
          (there.0, (there.1.0, (s.1, (ap (level_at t.levels.now) s.0 ∙ is_same (level_at t.levels.now f) to (sym ea ∙ p.0), s.0))))

      back : Calls t from to f → r ≡ true
      back c =
          let m : slice_index_or t.callers.now (f * 32 + from) false ≡ true =
          (is.marks (f * 32 + from)).1 (subst (λ (n : ℕ). Contains (numbers_of t.levels.now t.crossings.now) n)
          (ap (λ (g : ℕ). g * 32 + level_at t.levels.now c.0.caller) c.1.1.1.1 ∙ ap (λ (n : ℕ). f * 32 + n) c.1.1.0)
          (to_map (number t.levels.now) t.crossings.now c.0 c.1.0)) in
          let l : (level_at t.levels.now f == to) ≡ true = eq-eqb (level_at t.levels.now f) to (ap (level_at t.levels.now) (sym c.1.1.1.1) ∙ c.1.1.1.0) in
          rw (e, ea, eb, l, m) refl

  pub called_ready : (from to f : ℕ) → Calls t from to f → IsReady t.sources.typed.now t.sources.labels.now from f
  called_ready from to f c =
      subst (λ (x : ℕ). IsReady t.sources.typed.now t.sources.labels.now x f) c.1.1.0
      (subst (λ (x : ℕ). IsReady t.sources.typed.now t.sources.labels.now (level_at t.levels.now c.0.caller) x) c.1.1.1.1 (is.ready c.0 c.1.0))

  pub callee_below : (c : Call) → Contains t.crossings.now c → c.callee < t.count
  callee_below c h = All-contains (λ (d : Call). d.callee < t.count) t.crossings.now c is.callees h

pub all_below : (cs : List Call) (n m : ℕ) → n ≤ m → All (λ c. c.callee < n) cs → All (λ c. c.callee < m) cs
all_below cs n m few below = all_from (λ (c : Call). c.callee < m) cs (λ c h. let l : c.callee < n = All-contains (λ (d : Call). d.callee < n) cs c below h in omega (arith, l, few))
