-- Edges that close no cycle: one more, and a call after the other.
use Rattle.std.proofs.Common.{◌≡◌, ℕ, zero, suc, ◌+◌, ◌*◌, ◌<◌, ◌≤◌, ◌⊎◌, inl, inr, ⊎_elim, List, [], ◌∷◌, ◌++◌, All, take, length, Bool, true, false, replicate, slice_index_or, slice_get, slice_set, Some, Ok, Err, add-one, refl, sym, ap, subst, ◌∙◌, arith}
use Rattle.std.specs.List.{Contains}
use Rattle.std.proofs.lemmas.Bool.{cases_eq, cases_lt, false≢true}
use Rattle.std.proofs.lemmas.List.{get_or-set_other}
use Rattle.std.proofs.lemmas.List.Elements.{All-contains_itself, Contains-append_cases, Contains-append_left, Contains-append_right}
use Rattle.std.proofs.lemmas.Option.{slice_get_within, slice_get_read}
use Rattle.cl_mean.specs.declared.checked.Levels.{Levels}
use Rattle.cl_reach.specs.declared.graph.Edge.{Edge}
use Rattle.cl_reach.specs.declared.propagate.Seed.{Seed}
use Rattle.cl_reach.specs.Reach.{Reaches, HasEdge, Carries, edge, seed}
use Rattle.cl_levels.specs.declared.uses.Call.{Call}
use Rattle.cl_levels.specs.Placed.{Holds, IsFirst}
use Rattle.cl_levels.proofs.Each.{head_or_tail, at_head, in_tail, in_none}
use Rattle.cl_levels.proofs.Reaching.{closed, start, step}
use Rattle.cl_calls.specs.Calls.{level_at}
use Rattle.cl_calls.specs.Cycles.{Leads, Circles, cycle_at, pair_of, IsPair, ArePairs, AreSeen, Closes, Joins}

-- ---- reaching

pub more : (E F : ℕ → ℕ → Type 0) (S : ℕ → Type 0) → ((a b : ℕ) → E a b → F a b) → (x : ℕ) → Reaches E S x → Reaches F S x
more E F S into x h = closed E S (λ y. Reaches F S y) (λ y s. start F S y s) (λ y z e r. step F S y z (into y z e) r) x h

pub from_starts : (E : ℕ → ℕ → Type 0) (S T : ℕ → Type 0) → ((a : ℕ) → S a → T a) → (x : ℕ) → Reaches E S x → Reaches E T x
from_starts E S T into x h = closed E S (λ y. Reaches E T y) (λ y s. start E T y (into y s)) (λ y z e r. step E T y z e r) x h

on_from : (E : ℕ → ℕ → Type 0) (a b c : ℕ) → Reaches E (λ x. x ≡ a) b → Reaches E (λ x. x ≡ b) c → Reaches E (λ x. x ≡ a) c
on_from E a b c p q =
    closed E (λ x. x ≡ b) (λ x. Reaches E (λ y. y ≡ a) x) (λ x is. subst (λ y. Reaches E (λ z. z ≡ a) y) (sym is) p)
    (λ y x e r. step E (λ z. z ≡ a) y x e r) c q

-- one edge more
module _ (E F : ℕ → ℕ → Type 0) (L M : ℕ) (split : (a b : ℕ) → F a b → E a b ⊎ ((a ≡ L) × (b ≡ M))) (ends : Reaches E (λ x. x ≡ M) L → ⊥) where
  abbrev Turns : ℕ → ℕ → Type 0
  Turns to x = Reaches E (λ y. y ≡ to) x ⊎ (Reaches E (λ y. y ≡ to) L × Reaches E (λ y. y ≡ M) x)

  turn : (to y x : ℕ) → E y x ⊎ ((y ≡ L) × (x ≡ M)) → Turns to y → Turns to x
  turn to y x (inl e) (inl r) = inl (step E (λ z. z ≡ to) y x e r)
  turn to y x (inl e) (inr r) = inr (r.0, step E (λ z. z ≡ M) y x e r.1)
  turn to y x (inr p) (inl r) = inr (subst (λ z. Reaches E (λ w. w ≡ to) z) p.0 r, start E (λ z. z ≡ M) x p.1)
  turn to y x (inr p) (inr r) = inr (r.0, start E (λ z. z ≡ M) x p.1)

  turns : (to x : ℕ) → Reaches F (λ y. y ≡ to) x → Turns to x
  turns to x h = closed F (λ y. y ≡ to) (Turns to) (λ y s. inl (start E (λ z. z ≡ to) y s)) (λ y z f t. turn to y z (split y z f) t) x h

  pub still_none : ((from to : ℕ) → E from to → Reaches E (λ x. x ≡ to) from → ⊥) → (from to : ℕ) → F from to → Reaches F (λ x. x ≡ to) from → ⊥
  still_none none from to f r = by (split from to f) (turns to from r)
    where
      by : E from to ⊎ ((from ≡ L) × (to ≡ M)) → Turns to from → ⊥
      by (inl e) (inl s) = none from to e s
      by (inl e) (inr s) = ends (on_from E M to L (step E (λ z. z ≡ M) from to e s.1) s.0)
      by (inr p) (inl s) = ends (subst (λ z. Reaches E (λ w. w ≡ M) z) p.0 (subst (λ z. Reaches E (λ w. w ≡ z) from) p.1 s))
      by (inr p) (inr s) = ends (subst (λ z. Reaches E (λ w. w ≡ M) z) p.0 s.1)

-- ---- one seed

pub one_seed : (es : List Edge) (x m : ℕ) → Carries (seed m 0 ∷ []) es 0 x → Reaches (HasEdge es) (λ y. y ≡ m) x
one_seed es x m h = from_starts (HasEdge es) (λ y. Contains (seed m 0 ∷ []) (seed y 0)) (λ y. y ≡ m)
    (λ y c. ⊎_elim (λ (e : seed m 0 ≡ seed y 0). sym (ap (λ (s : Seed). s.node) e)) (λ (z : Contains [] (seed y 0)). absurd (in_none (seed y 0) z)) (head_or_tail (seed m 0) (seed y 0) [] c)) x h

pub as_seed : (es : List Edge) (x m : ℕ) → Reaches (HasEdge es) (λ y. y ≡ m) x → Carries (seed m 0 ∷ []) es 0 x
as_seed es x m h = from_starts (HasEdge es) (λ y. y ≡ m) (λ y. Contains (seed m 0 ∷ []) (seed y 0))
    (λ y e. subst (λ z. Contains (seed m 0 ∷ []) (seed z 0)) (sym e) (at_head (seed m 0) [])) x h

-- ---- the first calls

abbrev pub no_call : Call
no_call = record { caller = 0; callee = 0; line = 0 }

pub no_default : {A : Type 0} (xs : List A) (i : ℕ) (d : A) → i < length xs → slice_index_or xs i d ≡ slice_index_or xs i (slice_index_or xs i d)
no_default [] i d l = absurd (omega arith)
no_default (x ∷ xs) zero d l = refl
no_default (x ∷ xs) (suc i) d l = no_default xs i d (omega arith)

in_front_of : {A : Type 0} (xs : List A) (m n : ℕ) (x : A) → m ≤ n → Contains (take m xs) x → Contains (take n xs) x
in_front_of [] zero n x l h = absurd (in_none x h)
in_front_of [] (suc m) n x l h = absurd (in_none x h)
in_front_of (y ∷ ys) zero n x l h = absurd (in_none x h)
in_front_of (y ∷ ys) (suc m) zero x l h = absurd (omega arith)
in_front_of {A} (y ∷ ys) (suc m) (suc n) x l h =
    ⊎_elim (λ (e : y ≡ x). subst (λ (z : A). Contains (y ∷ take n ys) z) e (at_head y (take n ys)))
    (λ (r : Contains (take m ys) x). in_tail y x (take n ys) (in_front_of ys m n x (omega arith) r)) (head_or_tail y x (take m ys) h)

take_next : {A : Type 0} (xs : List A) (i : ℕ) (x : A) → i < length xs → x ≡ slice_index_or xs i x → take (suc i) xs ≡ take i xs ++ x ∷ []
take_next [] i x l e = absurd (omega arith)
take_next (y ∷ ys) zero x l e = ap (λ z. z ∷ []) (sym e)
take_next (y ∷ ys) (suc i) x l e = ap (λ zs. y ∷ zs) (take_next ys i x (omega arith) e)

module _ (levels : Levels) (cs : List Call) where
  wider : (m n from to : ℕ) → m ≤ n → Leads levels (take m cs) from to → Leads levels (take n cs) from to
  wider m n from to l h = (h.0, (in_front_of cs m n h.0 l h.1.0, h.1.1))

  wider_circle : (m n : ℕ) → m ≤ n → Circles levels (take m cs) → Circles levels (take n cs)
  wider_circle m n l h =
      (h.0, (h.1.0, (wider m n h.0 h.1.0 l h.1.1.0, more (Leads levels (take m cs)) (Leads levels (take n cs)) (λ x. x ≡ h.1.0) (λ a b e. wider m n a b l e) h.0 h.1.1.1)))

  -- the pairs of the first calls, which have no cycle
  pub record SoFar (i : ℕ) (es : List Edge) (seen : List Bool) : Type 0 where
    pub pairs : ArePairs es
    pub marks : AreSeen es seen
    pub sound : (a b : ℕ) → HasEdge es a b → Leads levels (take i cs) a b
    pub complete : (a b : ℕ) → Leads levels (take i cs) a b → HasEdge es a b
    pub none : Circles levels (take i cs) → ⊥

  pub at_first : (es : List Edge) (seen : List Bool) → es ≡ [] → AreSeen es seen → SoFar 0 es seen
  at_first es seen e marks = record {
    pairs = subst ArePairs (sym e) (λ k d l. absurd (omega arith));
    marks = marks;
    sound = λ a b h. absurd (in_none (edge a b) (subst (λ xs. Contains xs (edge a b)) e h));
    complete = λ a b h. absurd (in_none h.0 h.1.0);
    none = λ h. absurd (in_none h.1.1.0.0 h.1.1.0.1.0);
  }

  module _ (i : ℕ) (es : List Edge) (seen : List Bool) (c : Call) (so : SoFar i es seen) (within : i < length cs) (is : c ≡ slice_index_or cs i c) where
    in_next : Contains (take (suc i) cs) c
    in_next = subst (λ xs. Contains xs c) (sym (take_next cs i c within is)) (Contains-append_right (take i cs) (c ∷ []) c (at_head c []))

    from_next : (d : Call) → Contains (take (suc i) cs) d → Contains (take i cs) d ⊎ (d ≡ c)
    from_next d h =
        ⊎_elim (λ (l : Contains (take i cs) d). inl l)
        (λ (r : Contains (c ∷ []) d). ⊎_elim (λ (e : c ≡ d). inr (sym e)) (λ (z : Contains [] d). absurd (in_none d z)) (head_or_tail c d [] r))
        (Contains-append_cases (take i cs) (c ∷ []) d (subst (λ xs. Contains xs d) (take_next cs i c within is) h))

    own : Leads levels (take (suc i) cs) (pair_of levels c).from (pair_of levels c).to
    own = (c, (in_next, (refl, refl)))

    split : (a b : ℕ) → Leads levels (take (suc i) cs) a b → Leads levels (take i cs) a b ⊎ ((a ≡ (pair_of levels c).from) × (b ≡ (pair_of levels c).to))
    split a b h = by (from_next h.0 h.1.0)
      where
        by : Contains (take i cs) h.0 ⊎ (h.0 ≡ c) → Leads levels (take i cs) a b ⊎ ((a ≡ (pair_of levels c).from) × (b ≡ (pair_of levels c).to))
        by (inl l) = inl (h.0, (l, h.1.1))
        by (inr e) = inr (sym h.1.1.0 ∙ ap (λ (d : Call). level_at levels d.caller) e, sym h.1.1.1 ∙ ap (λ (d : Call). level_at levels d.callee) e)

    same_pair : (a b : ℕ) → (a ≡ (pair_of levels c).from) × (b ≡ (pair_of levels c).to) → edge a b ≡ pair_of levels c
    same_pair a b p = ap (λ x. edge x b) p.0 ∙ ap (λ y. edge (pair_of levels c).from y) p.1

    back : Contains es (pair_of levels c) → (a b : ℕ) → Leads levels (take (suc i) cs) a b → Leads levels (take i cs) a b
    back there a b e =
        ⊎_elim (λ (l : Leads levels (take i cs) a b). l)
        (λ (p : (a ≡ (pair_of levels c).from) × (b ≡ (pair_of levels c).to)). so.sound a b (subst (λ (x : Edge). Contains es x) (sym (same_pair a b p)) there)) (split a b e)

    none_next : Contains es (pair_of levels c) ⊎ (Closes es (pair_of levels c) → ⊥) → Circles levels (take (suc i) cs) → ⊥
    none_next (inl there) h =
        so.none (h.0, (h.1.0, (back there h.0 h.1.0 h.1.1.0, more (Leads levels (take (suc i) cs)) (Leads levels (take i cs)) (λ x. x ≡ h.1.0) (back there) h.0 h.1.1.1)))
    none_next (inr not) h =
        still_none (Leads levels (take i cs)) (Leads levels (take (suc i) cs)) (pair_of levels c).from (pair_of levels c).to split
        (λ r. not (more (Leads levels (take i cs)) (HasEdge es) (λ x. x ≡ (pair_of levels c).to) so.complete (pair_of levels c).from r))
        (λ from to e r. so.none (from, (to, (e, r)))) h.0 h.1.0 h.1.1.0 h.1.1.1

    next_call : (new : List Edge) (seen' : List Bool) → Joins es (pair_of levels c) new → AreSeen new seen' → SoFar (suc i) new seen'
    next_call new seen' j marks = record {
      pairs = j.pairs;
      marks = marks;
      sound = λ a b h. ⊎_elim (λ (l : Contains es (edge a b)). wider i (suc i) a b (omega arith) (so.sound a b l))
          (λ (e : edge a b ≡ pair_of levels c). subst (λ (x : Edge). Leads levels (take (suc i) cs) x.from x.to) (sym e) own) (j.only (edge a b) h);
      complete = λ a b h. ⊎_elim (λ (l : Leads levels (take i cs) a b). j.kept (edge a b) (so.complete a b l))
          (λ (p : (a ≡ (pair_of levels c).from) × (b ≡ (pair_of levels c).to)). subst (λ (x : Edge). Contains new x) (sym (same_pair a b p)) j.there) (split a b h);
      none = none_next j.fine;
    }

    pub one_call : (new : List Edge) (seen' : List Bool) → Joins es (pair_of levels c) new → AreSeen new seen' → SoFar (i + 1) new seen'
    one_call new seen' j marks = rw (add-one i) (next_call new seen' j marks)

    pub stops : Closes es (pair_of levels c) → IsFirst (cycle_at levels cs) c.line
    stops h = (i, ((c, (slice_get_read cs (length cs) i c refl within is, (refl, circle))), least))
      where
        returns : Reaches (Leads levels (take (suc i) cs)) (λ x. x ≡ (pair_of levels c).to) (pair_of levels c).from
        returns = more (HasEdge es) (Leads levels (take (suc i) cs)) (λ x. x ≡ (pair_of levels c).to) (λ a b e. wider i (suc i) a b (omega arith) (so.sound a b e)) (pair_of levels c).from h

        circle : Circles levels (take (suc i) cs)
        circle = ((pair_of levels c).from, ((pair_of levels c).to, (own, returns)))

        least : (other at : ℕ) → cycle_at levels cs other at → i ≤ other
        least other at f = ⊎_elim (λ (l : other < i). absurd (so.none (wider_circle (suc other) i (omega (arith, l)) f.1.1.1))) (λ (l : i ≤ other). l) (cases_lt other i)

  pub none_ever : (i : ℕ) (es : List Edge) (seen : List Bool) → SoFar i es seen → length cs ≤ i → Holds (cycle_at levels cs)
  none_ever i es seen so past position line f =
      let l : position < length cs = slice_get_within cs position f.0 f.1.0 in
      so.none (wider_circle (suc position) i (omega (arith, l, past)) f.1.1.1)

-- ---- marks

none_marked : (n k : ℕ) → slice_index_or (replicate n false) k false ≡ true → ⊥
none_marked zero k h = false≢true h
none_marked (suc n) zero h = false≢true h
none_marked (suc n) (suc k) h = none_marked n k h

pub no_marks : (n : ℕ) (es : List Edge) (seen : List Bool) → seen ≡ replicate n false → AreSeen es seen
no_marks n es seen e k h = absurd (none_marked n k (subst (λ bs. slice_index_or bs k false ≡ true) e h))

pub marked : (es : List Edge) (seen : List Bool) (pair : Edge) (at : ℕ) → at ≡ pair.from * 32 + pair.to → Contains es pair → AreSeen es seen → AreSeen es (slice_set seen at true)
marked es seen pair at here there marks k h = by (cases_eq k at)
  where
    by : (k ≡ at) ⊎ (k ≡ at → ⊥) → (e : Edge) × (Contains es e × (k ≡ e.from * 32 + e.to))
    by (inl e) = (pair, (there, e ∙ here))
    by (inr e) = marks k (sym (get_or-set_other seen at k true false e) ∙ h)

pub more_marks : (es new : List Edge) (seen : List Bool) (pair : Edge) → new ≡ es ++ pair ∷ [] → AreSeen es seen → AreSeen new seen
more_marks es new seen pair e marks k h = let m = marks k h in (m.0, (subst (λ xs. Contains xs m.0) (sym e) (Contains-append_left es (pair ∷ []) m.0 m.1.0), m.1.1))

pub same_place : (a b : Edge) → IsPair a → IsPair b → a.from * 32 + a.to ≡ b.from * 32 + b.to → a ≡ b
same_place a b p q e =
    let f : a.from ≡ b.from = omega (arith, p.0, p.1, q.0, q.1, e) in
    let t : a.to ≡ b.to = omega (arith, p.0, p.1, q.0, q.1, e) in
    ap (λ x. edge x a.to) f ∙ ap (λ y. edge b.from y) t

pub pair_there : (es : List Edge) (e : Edge) → ArePairs es → Contains es e → IsPair e
pair_there es e all h = subst IsPair h.2 (all h.0 e h.1)

pub seen_is : (es : List Edge) (seen : List Bool) (pair : Edge) (at : ℕ) → ArePairs es → IsPair pair → AreSeen es seen → at ≡ pair.from * 32 + pair.to
    → slice_index_or seen at false ≡ true → Contains es pair
seen_is es seen pair at all p marks here h =
    let m = marks at h in
    subst (λ (x : Edge). Contains es x) (same_place m.0 pair (pair_there es m.0 all m.1.0) p (sym m.1.1 ∙ here)) m.1.0

pub all_from : {X : Type 0} (P : X → Type 0) (xs : List X) → ((x : X) → Contains xs x → P x) → All P xs
all_from P xs h = λ k d l. h (slice_index_or xs k d) (All-contains_itself xs k d l)

pub all_pairs : (es new : List Edge) (pair : Edge) → new ≡ es ++ pair ∷ [] → ArePairs es → IsPair pair → ArePairs new
all_pairs es new pair e all p = subst ArePairs (sym e) (all_from IsPair (es ++ pair ∷ []) by)
  where
    by : (x : Edge) → Contains (es ++ pair ∷ []) x → IsPair x
    by x h = ⊎_elim (λ (l : Contains es x). pair_there es x all l)
        (λ (r : Contains (pair ∷ []) x). ⊎_elim (λ (e : pair ≡ x). subst IsPair e p) (λ (z : Contains [] x). absurd (in_none x z)) (head_or_tail pair x [] r))
        (Contains-append_cases es (pair ∷ []) x h)

pub joined_already : (es : List Edge) (pair : Edge) → ArePairs es → Contains es pair → Joins es pair es
joined_already es pair all h = record { pairs = all; only = λ e c. inl c; kept = λ e c. c; there = h; fine = inl h }

pub joined_now : (es new : List Edge) (pair : Edge) → ArePairs es → IsPair pair → new ≡ es ++ pair ∷ [] → (Closes es pair → ⊥) → Joins es pair new
joined_now es new pair all p e not = record {
  pairs = all_pairs es new pair e all p;
  only = λ x h. ⊎_elim (λ (l : Contains es x). inl l)
      (λ (r : Contains (pair ∷ []) x). ⊎_elim (λ (f : pair ≡ x). inr (sym f)) (λ (z : Contains [] x). absurd (in_none x z)) (head_or_tail pair x [] r))
      (Contains-append_cases es (pair ∷ []) x (subst (λ xs. Contains xs x) e h));
  kept = λ x h. subst (λ xs. Contains xs x) (sym e) (Contains-append_left es (pair ∷ []) x h);
  there = subst (λ xs. Contains xs pair) (sym e) (Contains-append_right es (pair ∷ []) pair (at_head pair []));
  fine = inr not;
}
