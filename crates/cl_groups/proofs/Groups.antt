-- A node bears a level just where the symbol's group has it.
use Rattle.std.proofs.Common.{◌≡◌, ◌⊎◌, inl, inr, ⊎_elim, ◌≤◌, ◌<◌, ℕ, ◌*◌, ◌+◌, List, [], ◌∷◌, ◌++◌, Option, Some, None, Bool, true, false, ◌&&◌, is_none, slice_index_or, refl, sym, ap, subst, ◌∙◌, arith}
use Rattle.std.specs.List.{Contains}
use Rattle.std.proofs.lemmas.List.Elements.{Contains-append_cases, Contains-append_left, Contains-append_right}
use Rattle.std.proofs.lemmas.Bool.{false≢true, and_parts}
use Rattle.std.proofs.lemmas.Option.{none-some, same_Some}
use Rattle.cl_reach.specs.declared.graph.Edge.{Edge}
use Rattle.cl_reach.specs.declared.propagate.Seed.{Seed}
use Rattle.cl_reach.specs.Reach.{Reaches, HasEdge, Carries, edge, seed}
use Rattle.cl_levels.specs.declared.uses.Use.{Use}
use Rattle.cl_levels.specs.declared.uses.Use.TheVariants.{Named, Called}
use Rattle.cl_levels.specs.Uses.{uses_of}
use Rattle.cl_levels.specs.Levels.{Annotated, Symbol, function, object, label_of, own_level, IsFree, body_of, Names, Calls, Ties, Tied, Joined, InGroup, GroupHas}
use Rattle.cl_levels.proofs.Each.{head_or_tail, at_head, in_tail, in_none, Origin, from_each, to_each}
use Rattle.cl_levels.proofs.Reaching.{closed, start, step, in_front}
use Rattle.cl_groups.specs.declared.own.Own.{Own}
use Rattle.cl_groups.specs.Own.{own_at}
use Rattle.cl_groups.specs.Ties.{node, is_free, both, lay, join, lead, use_edges, use_seeds, edges_of, seeds_of}

pub same_symbol : (x y : Symbol) → node x ≡ node y → x ≡ y
same_symbol (function i) (function j) e = ap function (omega arith)
same_symbol (function i) (object j) e = absurd (omega arith)
same_symbol (object i) (function j) e = absurd (omega arith)
same_symbol (object i) (object j) e = ap object (omega arith)

none_is : (o : Option ℕ) → is_none o ≡ true → o ≡ None
none_is None e = refl
none_is (Some k) e = absurd (false≢true e)

same_edge : (m n p q : ℕ) → edge m n ≡ edge p q → (m ≡ p) × (n ≡ q)
same_edge m n p q e = (ap (λ (x : Edge). x.from) e, ap (λ (x : Edge). x.to) e)

pub from_both : (b : Bool) (m n p q : ℕ) → Contains (both b m n) (edge p q) → (b ≡ true) × (((m ≡ p) × (n ≡ q)) ⊎ ((n ≡ p) × (m ≡ q)))
from_both false m n p q h = absurd (in_none (edge p q) h)
from_both true m n p q h = (
  refl,
  ⊎_elim (λ (e : edge m n ≡ edge p q). inl (same_edge m n p q e))
      (λ (t : Contains (edge n m ∷ []) (edge p q)). inr (⊎_elim (λ (e : edge n m ≡ edge p q). same_edge n m p q e) (λ (z : Contains [] (edge p q)). absurd (in_none (edge p q) z)) (head_or_tail (edge n m) (edge p q) [] t)))
      (head_or_tail (edge m n) (edge p q) (edge n m ∷ []) h),
)

pub from_lay : (o : Option ℕ) (b : Bool) (n p l : ℕ) → Contains (lay o b n) (seed p l) → (o ≡ Some l) × ((b ≡ true) × (n ≡ p))
from_lay None b n p l h = absurd (in_none (seed p l) h)
from_lay (Some k) false n p l h = absurd (in_none (seed p l) h)
from_lay (Some k) true n p l h =
    ⊎_elim (λ (e : seed n k ≡ seed p l). (ap (λ (s : Seed). Some s.label) e, (refl, ap (λ (s : Seed). s.node) e)))
    (λ (z : Contains [] (seed p l)). absurd (in_none (seed p l) z)) (head_or_tail (seed n k) (seed p l) [] h)

to_lay : (o : Option ℕ) (b : Bool) (n l : ℕ) → o ≡ Some l → b ≡ true → Contains (lay o b n) (seed n l)
to_lay None b n l e f = absurd (none-some l e)
to_lay (Some k) false n l e f = absurd (false≢true f)
to_lay (Some k) true n l e f = subst (λ (x : ℕ). Contains (seed n k ∷ []) (seed n x)) (same_Some k l e) (at_head (seed n k) [])

module _ (a : Annotated) (own : Own) (agree : (x : Symbol) → own_at own x ≡ own_level a x) (sure : (x : Symbol) → own_level a x ≡ None → IsFree a x) where
  abbrev edges : List Edge
  edges = edges_of own 0 (uses_of a.typed)

  abbrev seeds : List Seed
  seeds = seeds_of own 0 (uses_of a.typed)

  none_there : (x : Symbol) (o : Option ℕ) → label_of a x ≡ o → o ≡ None → own_level a x ≡ None
  none_there x o e n = rw e (rw n refl)

  pub no_own : (x : Symbol) → IsFree a x → own_level a x ≡ None
  no_own x h = none_there x (label_of a x) refl h

  pub not_own : (x : Symbol) → IsFree a x → own_at own x ≡ None
  not_own x h = agree x ∙ no_own x h

  pub free_there : (x : Symbol) → own_at own x ≡ None → IsFree a x
  free_there x e = sure x (sym (agree x) ∙ e)

  is_free_true : (x : Symbol) → IsFree a x → is_free own x ≡ true
  is_free_true x h = ap is_none (not_own x h)

  true_is_free : (x : Symbol) → is_free own x ≡ true → IsFree a x
  true_is_free x e = free_there x (none_is (own_at own x) e)

  -- two symbols that are joined stand at these nodes
  record Linked (p q : ℕ) : Type 0 where
    pub x : Symbol
    pub y : Symbol
    pub at_x : node x ≡ p
    pub at_y : node y ≡ q
    pub joined : Joined a x y

  linked : (x y : Symbol) (p q : ℕ) → Ties a x y → Contains (join own x y) (edge p q) → Linked p q
  linked x y p q t h =
      let b = from_both (is_free own x && is_free own y) (node x) (node y) p q h in
      let f = and_parts (is_free own x) (is_free own y) b.0 in
      ⊎_elim (λ (e : (node x ≡ p) × (node y ≡ q)). record { x = x; y = y; at_x = e.0; at_y = e.1; joined = (inl t, (true_is_free x f.0, true_is_free y f.1)) })
      (λ (e : (node y ≡ p) × (node x ≡ q)). record { x = y; y = x; at_x = e.0; at_y = e.1; joined = (inr t, (true_is_free y f.1, true_is_free x f.0)) }) b.1

  linked_by : (f p q : ℕ) (used : Use) → Contains (body_of a f) used → Contains (use_edges own f used) (edge p q) → Linked p q
  linked_by f p q (Named k line) c h = linked (function f) (object k) p q (line, c) h
  linked_by f p q (Called g roots line) c h =
      let b = from_both (is_free own (function f) && is_free own (function g)) (node (function f)) (node (function g)) p q h in
      let e = and_parts (is_free own (function f)) (is_free own (function g)) b.0 in
      linked (function f) (function g) p q ((roots, (line, c)), true_is_free (function g) e.1) h

  from_edge : (p q : ℕ) → HasEdge edges p q → Linked p q
  from_edge p q h =
      let o = from_each (use_edges own) 0 (uses_of a.typed) (edge p q) h in
      linked_by o.by p q o.used o.stands (subst (λ (n : ℕ). Contains (use_edges own n o.used) (edge p q)) (omega arith) o.gave)

  tie_edge : (x y : Symbol) (e : Edge) → Ties a x y → Contains (join own x y) e → Contains edges e
  tie_edge (function f) (object k) e t h =
      to_each (use_edges own) 0 (uses_of a.typed) f (Named k t.0) e t.1 (subst (λ (n : ℕ). Contains (use_edges own n (Named k t.0)) e) (omega arith) h)
  tie_edge (function f) (function g) e t h =
      to_each (use_edges own) 0 (uses_of a.typed) f (Called g t.0.0 t.0.1.0) e t.0.1.1 (subst (λ (n : ℕ). Contains (use_edges own n (Called g t.0.0 t.0.1.0)) e) (omega arith) h)
  tie_edge (object k) y e t h = absurd t

  joins : (x y : Symbol) → IsFree a x → IsFree a y → (is_free own x && is_free own y) ≡ true
  joins x y f g = rw (is_free_true x f) (is_free_true y g)

  to_edge : (x y : Symbol) → Joined a x y → HasEdge edges (node x) (node y)
  to_edge x y j = ⊎_elim
      (λ (t : Ties a x y). tie_edge x y (edge (node x) (node y)) t (subst (λ (b : Bool). Contains (both b (node x) (node y)) (edge (node x) (node y))) (sym (joins x y j.1.0 j.1.1)) (at_head (edge (node x) (node y)) (edge (node y) (node x) ∷ []))))
      (λ (t : Ties a y x). tie_edge y x (edge (node x) (node y)) t (subst (λ (b : Bool). Contains (both b (node y) (node x)) (edge (node x) (node y))) (sym (joins y x j.1.1 j.1.0)) (in_tail (edge (node y) (node x)) (edge (node x) (node y)) (edge (node x) (node y) ∷ []) (at_head (edge (node x) (node y)) []))))
      j.0

  -- a level comes to the symbol of a node from one that is annotated
  record Laid (p level : ℕ) : Type 0 where
    pub y : Symbol
    pub at_y : node y ≡ p
    pub free : IsFree a y
    pub z : Symbol
    pub tied : Tied a y z
    pub level_is : own_level a z ≡ Some level

  laid : (y z : Symbol) (p level : ℕ) → (IsFree a y → Tied a y z) → Contains (lead own z y) (seed p level) → Laid p level
  laid y z p level t h =
      let b = from_lay (own_at own z) (is_free own y) (node y) p level h in
      let f = true_is_free y b.1.0 in
      record { y = y; at_y = b.1.1; free = f; z = z; tied = t f; level_is = sym (agree z) ∙ b.0 }

  laid_by : (f p level : ℕ) (used : Use) → Contains (body_of a f) used → Contains (use_seeds own f used) (seed p level) → Laid p level
  laid_by f p level (Named k line) c h =
      ⊎_elim (λ (l : Contains (lead own (function f) (object k)) (seed p level)). laid (object k) (function f) p level (λ _. inr (line, c)) l)
      (λ (r : Contains (lead own (object k) (function f)) (seed p level)). laid (function f) (object k) p level (λ _. inl (line, c)) r)
      (Contains-append_cases (lead own (function f) (object k)) (lead own (object k) (function f)) (seed p level) h)
  laid_by f p level (Called g roots line) c h = laid (function g) (function f) p level (λ free. inr ((roots, (line, c)), free)) h

  from_seed : (p level : ℕ) → Contains seeds (seed p level) → Laid p level
  from_seed p level h =
      let o = from_each (use_seeds own) 0 (uses_of a.typed) (seed p level) h in
      laid_by o.by p level o.used o.stands (subst (λ (n : ℕ). Contains (use_seeds own n o.used) (seed p level)) (omega arith) o.gave)

  leads : (z y : Symbol) (level : ℕ) → own_level a z ≡ Some level → IsFree a y → Contains (lead own z y) (seed (node y) level)
  leads z y level e f = to_lay (own_at own z) (is_free own y) (node y) level (agree z ∙ e) (is_free_true y f)

  -- the seeds of a use
  sown : (f : ℕ) (used : Use) (s : Seed) → Contains (body_of a f) used → Contains (use_seeds own f used) s → Contains seeds s
  sown f used s c h = to_each (use_seeds own) 0 (uses_of a.typed) f used s c (subst (λ (n : ℕ). Contains (use_seeds own n used) s) (omega arith) h)

  seed_of : (y z : Symbol) (level : ℕ) → IsFree a y → own_level a z ≡ Some level → Ties a y z → Contains seeds (seed (node y) level)
  seed_of (function f) (object k) level free e t =
      sown f (Named k t.0) (seed (node (function f)) level) t.1
      (Contains-append_right (lead own (function f) (object k)) (lead own (object k) (function f)) (seed (node (function f)) level) (leads (object k) (function f) level e free))
  seed_of (function f) (function g) level free e t = absurd (none-some level (sym (no_own (function g) t.1) ∙ e))
  seed_of (object k) z level free e t = absurd t

  seed_at : (y z : Symbol) (level : ℕ) → IsFree a y → own_level a z ≡ Some level → Ties a z y → Contains seeds (seed (node y) level)
  seed_at (object k) (function f) level free e t =
      sown f (Named k t.0) (seed (node (object k)) level) t.1
      (Contains-append_left (lead own (function f) (object k)) (lead own (object k) (function f)) (seed (node (object k)) level) (leads (function f) (object k) level e free))
  seed_at (function g) (function f) level free e t =
      sown f (Called g t.0.0 t.0.1.0) (seed (node (function g)) level) t.0.1.1 (leads (function f) (function g) level e free)
  seed_at y (object k) level free e t = absurd t

  to_seed : (y z : Symbol) (level : ℕ) → IsFree a y → Tied a y z → own_level a z ≡ Some level → Contains seeds (seed (node y) level)
  to_seed y z level free t e = ⊎_elim (λ (l : Ties a y z). seed_of y z level free e l) (λ (r : Ties a z y). seed_at y z level free e r) t

  back : (x y : Symbol) → Joined a x y → Joined a y x
  back x y j = (⊎_elim (λ (l : Ties a x y). inr l) (λ (r : Ties a y x). inl r) j.0, (j.1.1, j.1.0))

  pub group_of : (level n : ℕ) → Carries seeds edges level n → (x : Symbol) → node x ≡ n → GroupHas a x level
  group_of level n h =
      closed (HasEdge edges) (λ y. Contains seeds (seed y level)) (λ n. (x : Symbol) → node x ≡ n → GroupHas a x level)
      (λ n s x e. let l = from_seed n level s in
      subst (λ (y : Symbol). GroupHas a y level) (same_symbol l.y x (l.at_y ∙ sym e))
      (l.y, (start (Joined a) (λ w. w ≡ l.y) l.y refl, (l.z, (l.tied, l.level_is)))))
      (λ m n d c x e. let l = from_edge m n d in let g = c l.x l.at_x in
      subst (λ (y : Symbol). GroupHas a y level) (same_symbol l.y x (l.at_y ∙ sym e))
      (g.0, (in_front (Joined a) l.y l.x g.0 (back l.x l.y l.joined) g.1.0, g.1.1)))
      n h

  pub carried_by : (x : Symbol) (level : ℕ) → IsFree a x → GroupHas a x level → Carries seeds edges level (node x)
  carried_by x level free g =
      let c : IsFree a g.0 × (Carries seeds edges level (node g.0) → Carries seeds edges level (node x)) =
      closed (Joined a) (λ w. w ≡ x) (λ w. IsFree a w × (Carries seeds edges level (node w) → Carries seeds edges level (node x)))
      (λ w e. subst (λ (y : Symbol). IsFree a y × (Carries seeds edges level (node y) → Carries seeds edges level (node x))) (sym e) (free, λ h. h))
      (λ v w j k. (j.1.1, λ h. k.1 (step (HasEdge edges) (λ y. Contains seeds (seed y level)) (node w) (node v) (to_edge w v (back v w j)) h)))
      g.0 g.1.0 in
      c.1 (start (HasEdge edges) (λ y. Contains seeds (seed y level)) (node g.0) (to_seed g.0 g.1.1.0 level c.0 g.1.1.1.0 g.1.1.1.1))
