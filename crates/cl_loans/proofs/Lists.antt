-- One step further in lists: what is lent, and what is among it.
use Rattle.std.proofs.Common.{◌≡◌, ◌⊎◌, inl, inr, ⊎_elim, ℕ, zero, suc, ◌+◌, ◌<◌, ◌≤◌, Bool, true, false, ◌==◌, eq-eqb, ne_eqb, List, [], ◌∷◌, ◌++◌, drop, drop-cons, add-one, length, get_or, slice_index_or, slice_get, Option, Some, None, if◌then◌else◌, refl, sym, ap, subst, ◌∙◌, arith}
use Rattle.std.specs.List.{Contains}
use Rattle.std.proofs.lemmas.Bool.{cases_lt, cases_eq, false≢true}
use Rattle.std.proofs.lemmas.List.{drop_all, get_or_past}
use Rattle.std.proofs.lemmas.Option.{none-some, same_Some}
use Rattle.cl_tree.specs.declared.tree.CType.{out-CType}
use Rattle.cl_tree.specs.declared.tree.Declarator.{Declarator}
use Rattle.cl_levels.proofs.Each.{head_or_tail, at_head, in_tail, in_none}
use Rattle.cl_levels.specs.declared.uses.Variable.{Variable}
use Rattle.cl_levels.specs.declared.uses.Variable.TheVariants.{Static, Local}
use Rattle.cl_levels.specs.Crossings.{LentTwice, array_roots, maybe_root, is_array}
use Rattle.cl_loans.specs.Loans.{lent_if, same}

-- ---- what is lent

lent_is : (b c : Bool) (root : Option Variable) → b ≡ c → (if c then maybe_root root else []) ≡ lent_if b root
lent_is true c root e = rw (sym e) refl
lent_is false c root e = rw (sym e) refl

nothing_lent : (b : Bool) → lent_if b None ≡ []
nothing_lent true = refl
nothing_lent false = refl

no_roots : (ds : List Declarator) → array_roots ds [] ≡ []
unfolding array_roots
no_roots [] = refl
no_roots (d ∷ ds) = refl

pub next_root : (ds : List Declarator) (rs : List (Option Variable)) (i : ℕ) (d : Declarator) (b : Bool) (root : Option Variable) → i < length ds → d ≡ slice_index_or ds i d
    → b ≡ is_array (out-CType d.ctype) → root ≡ slice_index_or rs i None
    → array_roots (drop i ds) (drop i rs) ≡ lent_if b root ++ array_roots (drop (i + 1) ds) (drop (i + 1) rs)
unfolding array_roots
next_root ds rs i d b root within is array at =
    rw (add-one i) (ap (λ xs. array_roots xs (drop i rs)) (drop-cons ds i d within ∙ ap (λ x. x ∷ drop (suc i) ds) (sym is)) ∙ by (cases_lt i (length rs)))
  where
    by : (i < length rs) ⊎ (length rs ≤ i) → array_roots (d ∷ drop (suc i) ds) (drop i rs) ≡ lent_if b root ++ array_roots (drop (suc i) ds) (drop (suc i) rs)
    by (inl l) =
        ap (array_roots (d ∷ drop (suc i) ds)) (drop-cons rs i None l ∙ ap (λ (x : Option Variable). x ∷ drop (suc i) rs) (sym at))
        ∙ ap (λ xs. xs ++ array_roots (drop (suc i) ds) (drop (suc i) rs)) (lent_is b (is_array (out-CType d.ctype)) root array)
    by (inr past) =
        ap (array_roots (d ∷ drop (suc i) ds)) (drop_all i rs past) ∙ no_roots (d ∷ drop (suc i) ds)
        ∙ sym (ap (λ xs. lent_if b root ++ xs) (ap (array_roots (drop (suc i) ds)) (drop_all (suc i) rs (omega (arith, past))) ∙ no_roots (drop (suc i) ds))
        ∙ ap (λ xs. xs ++ []) (ap (lent_if b) (at ∙ get_or_past rs i None past) ∙ nothing_lent b))

pub no_root_left : (ds : List Declarator) (rs : List (Option Variable)) (i : ℕ) → length ds ≤ i → array_roots (drop i ds) rs ≡ []
unfolding array_roots
no_root_left ds rs i past = ap (λ xs. array_roots xs rs) (drop_all i ds past)

-- ---- what is among variables

pub is_same : (v w : Variable) → same v w ≡ true → v ≡ w
is_same (Static j) (Static k) e = ⊎_elim (λ (f : j ≡ k). ap Static f) (λ (o : j ≡ k → ⊥). absurd (false≢true (sym (ne_eqb j k o) ∙ e))) (cases_eq j k)
is_same (Local j) (Local k) e = ⊎_elim (λ (f : j ≡ k). ap Local f) (λ (o : j ≡ k → ⊥). absurd (false≢true (sym (ne_eqb j k o) ∙ e))) (cases_eq j k)
is_same (Static j) (Local k) e = absurd (false≢true e)
is_same (Local j) (Static k) e = absurd (false≢true e)

same_itself : (v : Variable) → same v v ≡ true
same_itself (Static k) = eq-eqb k k refl
same_itself (Local k) = eq-eqb k k refl

pub other : (v w : Variable) → same v w ≡ false → v ≡ w → ⊥
other v w e f = false≢true (sym e ∙ ap (same v) (sym f) ∙ same_itself v)

pub no_default : {A : Type 0} (xs : List A) (i : ℕ) (d : A) → i < length xs → slice_index_or xs i d ≡ slice_index_or xs i (slice_index_or xs i d)
no_default [] i d l = absurd (omega arith)
no_default (x ∷ xs) zero d l = refl
no_default (x ∷ xs) (suc i) d l = no_default xs i d (omega arith)

pub stands : {A : Type 0} (xs : List A) (i : ℕ) (x : A) → i < length xs → x ≡ slice_index_or xs i x → Contains xs x
stands xs i x within is = (i, within, sym is)

pub among_next : {A : Type 0} (xs : List A) (i : ℕ) (x y : A) → i < length xs → x ≡ slice_index_or xs i x → (x ≡ y → ⊥) → Contains (drop i xs) y → Contains (drop (i + 1) xs) y
among_next {A} xs i x y within is not c =
    rw (add-one i)
    (⊎_elim (λ (e : x ≡ y). absurd (not e)) (λ (r : Contains (drop (suc i) xs) y). r)
    (head_or_tail x y (drop (suc i) xs) (subst (λ ys. Contains ys y) (drop-cons xs i x within ∙ ap (λ (z : A). z ∷ drop (suc i) xs) (sym is)) c)))

pub among_none : {A : Type 0} (xs : List A) (i : ℕ) (y : A) → length xs ≤ i → Contains (drop i xs) y → ⊥
among_none xs i y past c = in_none y (subst (λ ys. Contains ys y) (drop_all i xs past) c)

pub any_next : {A : Type 0} (P : A → Type 0) (xs : List A) (i : ℕ) (x : A) → i < length xs → x ≡ slice_index_or xs i x → (P x → ⊥)
    → (y : A) × (Contains (drop i xs) y × P y) → (y : A) × (Contains (drop (i + 1) xs) y × P y)
any_next P xs i x within is not any = (any.0, (among_next xs i x any.0 within is (λ e. not (subst P (sym e) any.1.1)) any.1.0, any.1.1))

pub any_none : {A : Type 0} (P : A → Type 0) (xs : List A) (i : ℕ) → length xs ≤ i → (y : A) × (Contains (drop i xs) y × P y) → ⊥
any_none P xs i past any = among_none xs i any.0 past any.1.0

-- ---- what is there twice

got : {A : Type 0} (xs : List A) (k : ℕ) (x : A) → k < length xs → get_or xs k x ≡ x → slice_get xs k ≡ Some x
got [] k x l e = absurd (omega arith)
got (y ∷ ys) zero x l e = ap Some e
got (y ∷ ys) (suc k) x l e = got ys k x (omega arith) e

within : {A : Type 0} (xs : List A) (k : ℕ) (x : A) → slice_get xs k ≡ Some x → Contains xs x
within [] k x e = absurd (none-some x e)
within (y ∷ ys) zero x e = subst (λ z. Contains (y ∷ ys) z) (same_Some y x e) (at_head y ys)
within (y ∷ ys) (suc k) x e = in_tail y x ys (within ys k x e)

tail_twice : (v : Variable) (vs : List Variable) → LentTwice vs → LentTwice (v ∷ vs)
tail_twice v vs t = (suc t.0, (suc t.1.0, (t.1.1.0, (omega (arith, t.1.1.1.0), t.1.1.1.1))))

head_twice : (v : Variable) (vs : List Variable) → Contains vs v → LentTwice (v ∷ vs)
head_twice v vs c = (0, (suc c.0, (v, (omega arith, (refl, got vs c.0 v c.1 c.2)))))

past_head : (v : Variable) (vs : List Variable) → (Contains vs v → ⊥) → LentTwice (v ∷ vs) → LentTwice vs
past_head v vs not t = by t.0 t.1.0 t.1.1.1.0 t.1.1.1.1.0 t.1.1.1.1.1
  where
    by : (i j : ℕ) → i < j → slice_get (v ∷ vs) i ≡ Some t.1.1.0 → slice_get (v ∷ vs) j ≡ Some t.1.1.0 → LentTwice vs
    by i zero l e f = absurd (omega arith)
    by zero (suc j) l e f = absurd (not (within vs j v (f ∙ sym e)))
    by (suc i) (suc j) l e f = (i, (j, (t.1.1.0, (omega arith, (e, f)))))

pub dropped_twice : (n : ℕ) (vs : List Variable) → LentTwice (drop n vs) → LentTwice vs
dropped_twice zero vs t = t
dropped_twice (suc n) [] t = t
dropped_twice (suc n) (v ∷ vs) t = tail_twice v vs (dropped_twice n vs t)

from_here : (vs : List Variable) (i : ℕ) (v : Variable) → i < length vs → v ≡ slice_index_or vs i v → drop i vs ≡ v ∷ drop (suc i) vs
from_here vs i v within is = drop-cons vs i v within ∙ ap (λ (z : Variable). z ∷ drop (suc i) vs) (sym is)

pub found_twice : (vs : List Variable) (i : ℕ) (v : Variable) → i < length vs → v ≡ slice_index_or vs i v → Contains (drop (i + 1) vs) v → LentTwice vs
found_twice vs i v within is c =
    dropped_twice i vs (subst LentTwice (sym (from_here vs i v within is)) (head_twice v (drop (suc i) vs) (subst (λ n. Contains (drop n vs) v) (add-one i) c)))

pub next_twice : (vs : List Variable) (i : ℕ) (v : Variable) → i < length vs → v ≡ slice_index_or vs i v → (Contains (drop (i + 1) vs) v → ⊥) → LentTwice (drop i vs)
    → LentTwice (drop (i + 1) vs)
next_twice vs i v within is not t =
    subst (λ n. LentTwice (drop n vs)) (sym (add-one i))
    (past_head v (drop (suc i) vs) (λ c. not (subst (λ n. Contains (drop n vs) v) (sym (add-one i)) c)) (subst LentTwice (from_here vs i v within is) t))

pub none_twice : (vs : List Variable) (i : ℕ) → length vs ≤ i → LentTwice (drop i vs) → ⊥
none_twice vs i past t = let e = subst LentTwice (drop_all i vs past) t in none-some e.1.1.0 e.1.1.1.1.0
