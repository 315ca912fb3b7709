-- What is given of a program's calls across levels.
use Rattle.std.proofs.Common.{◌≡◌, ◌⊎◌, inl, inr, ⊎_elim, ◌<◌, ◌≤◌, ℕ, zero, suc, ◌+◌, Bool, true, false, List, [], ◌∷◌, filter, map, length, All, Some, if◌then◌else◌, slice_index_or, get_or, refl, sym, ap, subst, ◌∙◌, arith, Result, Ok, Err}
use Rattle.std.specs.List.{Contains}
use Rattle.std.proofs.lemmas.List.{get_or_default}
use Rattle.std.proofs.lemmas.List.Elements.{All-contains_itself}
use Rattle.cl_calls.specs.Cycles.{Answers, cycle_at}
use Rattle.cl_groups.proofs.Limits.{all_from}
use Rattle.cl_labelling.specs.Labelling.{IsLabelled}
use Rattle.cl_levels.specs.declared.uses.Call.{Call}
use Rattle.cl_levels.specs.declared.uses.Use.{Use}
use Rattle.cl_levels.specs.declared.uses.Use.TheVariants.{Named, Called}
use Rattle.cl_levels.specs.Crossings.{Levelled, LentTwice, NamesLent, call_in, is_crossing, calls_of, crossings_of, cycle_of_levels, loan_in, loans_of, aliased}
use Rattle.cl_levels.specs.Levels.{Annotated, Symbol, function, own_level, label_of, LevelOr, IsMainLevel, AreLevels}
use Rattle.cl_levels.specs.Uses.{uses_of}
use Rattle.cl_levels.proofs.Each.{head_or_tail, at_head, in_tail, in_none, from_each, each_same}
use Rattle.cl_loans.specs.Loans.{alone, PlacesOf}
use Rattle.cl_mean.specs.declared.checked.Levels.{Levels}
use Rattle.cl_mean.specs.declared.checked.Typed.{Typed}
use Rattle.cl_mean.specs.declared.labels.LabelTable.{LabelTable}
use Rattle.cl_scope.specs.declared.stop.Stop.{Stop}
use Rattle.cl_split.specs.Answer.{annotated, levelled, HasLevels}
use Rattle.cl_split.proofs.Given.{below}
use Rattle.uses_laws.specs.Within.{UseWithin, UsesWithin, BodiesWithin, numbered}
use Rattle.uses_laws.proofs.Bounds.{all_within}

-- ---- levels are below their limit

module _ (typed : Typed) (labels : LabelTable) (l : IsLabelled typed labels) where
  own_small : (x : Symbol) (level : ℕ) → own_level (annotated typed labels) x ≡ Some level → level < 32
  own_small x level e = below typed labels l (label_of (annotated typed labels) x) level e

  or_small : (Otherwise : ℕ → Type 0) → ((n : ℕ) → Otherwise n → n < 32) → (x : Symbol) (level : ℕ) → LevelOr Otherwise (annotated typed labels) x level → level < 32
  or_small Otherwise small x level (inl e) = own_small x level e
  or_small Otherwise small x level (inr (free, inl g)) = own_small g.1.1.0 level g.1.1.1.1
  or_small Otherwise small x level (inr (free, inr h)) = small level h.1

  main_small : (level : ℕ) → IsMainLevel (annotated typed labels) level → level < 32
  main_small level m = or_small (λ n. n ≡ 0) (λ n e. omega arith) (function m.0) level m.1.1

  pub small_levels : (levels : Levels) → HasLevels (annotated typed labels) levels → All (λ n. n < 32) levels.of_functions
  small_levels levels has = λ k d within.
      subst (λ n. n < 32) (get_or_default levels.of_functions k 0 d within)
      (or_small (IsMainLevel (annotated typed labels)) main_small (function k) (slice_index_or levels.of_functions k 0) (has.levelled.of_functions k within))

-- ---- callees are functions of the program

kept_in : (b : Bool) (x : Call) (ys xs : List Call) (c : Call) → (Contains ys c → Contains xs c) → Contains (if b then x ∷ ys else ys) c → Contains (x ∷ xs) c
kept_in true x ys xs c f h = ⊎_elim (λ (e : x ≡ c). subst (λ z. Contains (x ∷ xs) z) e (at_head x xs)) (λ (r : Contains ys c). in_tail x c xs (f r)) (head_or_tail x c ys h)
kept_in false x ys xs c f h = in_tail x c xs (f h)

filtered : (p : Call → Bool) (x : Call) (xs : List Call) (b : Bool) → p x ≡ b → filter p (x ∷ xs) ≡ (if b then x ∷ filter p xs else filter p xs)
filtered p x xs true e = rw e refl
filtered p x xs false e = rw e refl

from_filter : (p : Call → Bool) (cs : List Call) (c : Call) → Contains (filter p cs) c → Contains cs c
from_filter p [] c h = h
from_filter p (x ∷ xs) c h = kept_in (p x) x (filter p xs) xs c (λ r. from_filter p xs c r) (subst (λ ys. Contains ys c) (filtered p x xs (p x) refl) h)

among_uses : (m n : ℕ) (us : List Use) (u : Use) → UsesWithin m n us → Contains us u → UseWithin m n u
among_uses m n [] u w h = absurd (in_none u h)
among_uses m n (x ∷ xs) u w h = ⊎_elim (λ (e : x ≡ u). subst (UseWithin m n) e w.0) (λ (r : Contains xs u). among_uses m n xs u w.1 r) (head_or_tail x u xs h)

among_bodies : (m n : ℕ) (uss : List (List Use)) (i : ℕ) (u : Use) → BodiesWithin m n uss → Contains (slice_index_or uss i []) u → UseWithin m n u
among_bodies m n [] i u w h = absurd (in_none u h)
among_bodies m n (us ∷ uss) zero u w h = among_uses m n us u w.0 h
among_bodies m n (us ∷ uss) (suc i) u w h = among_bodies m n uss i u w.1 h

callee_within : (m n f : ℕ) (u : Use) (c : Call) → UseWithin m n u → Contains (call_in f u) c → c.callee < m
callee_within m n f (Named k line) c w h = absurd (in_none c h)
callee_within m n f (Called g roots line) c w h =
    ⊎_elim (λ (e : record { caller = f; callee = g; line = line } ≡ c). subst (λ i. i < m) (ap (λ (x : Call). x.callee) e) w.0) (λ (z : Contains [] c). absurd (in_none c z))
    (head_or_tail (record { caller = f; callee = g; line = line }) c [] h)

call_within : (a : Annotated) (c : Call) → Contains (calls_of a) c → c.callee < length a.typed.functions
unfolding calls_of
call_within a c h =
    let o = from_each call_in 0 (uses_of a.typed) c h in
    callee_within (length a.typed.functions) (numbered a.typed) (0 + o.by) o.used c (among_bodies (length a.typed.functions) (numbered a.typed) (uses_of a.typed) o.by o.used (all_within a.typed) o.stands) o.gave

crossing_within : (l : Levelled) (c : Call) → Contains (crossings_of l) c → c.callee < length l.annotated.typed.functions
unfolding crossings_of
crossing_within l c h = call_within l.annotated c (from_filter (is_crossing l) (calls_of l.annotated) c h)

pub callees_within : (l : Levelled) (cs : List Call) → cs ≡ crossings_of l → All (λ c. c.callee < length l.annotated.typed.functions) cs
callees_within l cs e = subst (λ xs. All (λ c. c.callee < length l.annotated.typed.functions) xs) (sym e) (all_from (λ c. c.callee < length l.annotated.typed.functions) (crossings_of l) (crossing_within l))

pub callees_small : (l : Levelled) (cs : List Call) → length l.annotated.typed.functions ≤ 4096 → cs ≡ crossings_of l → All (λ c. c.callee < 4096) cs
callees_small l cs few e = λ k d within. let i = callees_within l cs e k d within in omega (arith, few, i)

-- ---- the same places by other words

pub cycle_is : (l : Levelled) (cs : List Call) (r : Result (Unit {0}) Stop) → cs ≡ crossings_of l → Answers r (cycle_at l.levels cs) → Answers r (cycle_of_levels l)
cycle_is l cs r e a = subst (λ xs. Answers r (cycle_at l.levels xs)) e a

same_loan : (typed : Typed) (labels : LabelTable) (f : ℕ) (u : Use) → loan_in (alone typed) f u ≡ loan_in (annotated typed labels) f u
same_loan typed labels f (Named k line) = refl
same_loan typed labels f (Called g roots line) = refl

same_loans : (typed : Typed) (labels : LabelTable) → loans_of (alone typed) ≡ loans_of (annotated typed labels)
unfolding loans_of
same_loans typed labels = each_same (loan_in (alone typed)) (loan_in (annotated typed labels)) (same_loan typed labels) 0 (uses_of typed)

-- Labels have no part in it.
pub aliased_is : (typed : Typed) (labels : LabelTable) (r : Result (Unit {0}) Stop) → Answers r (aliased (alone typed)) → Answers r (aliased (annotated typed labels))
aliased_is typed labels r a =
    subst (λ ls. Answers r (PlacesOf (λ loan. LentTwice loan.lent ⊎ NamesLent (alone typed) loan) ls)) (same_loans typed labels) a
