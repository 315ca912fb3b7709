-- An object is carried back along calls to a function just where one that is reached from it by calls names the object.
use Rattle.std.proofs.Common.{◌≡◌, ⊎_elim, ℕ, ◌+◌, List, [], ◌∷◌, Option, refl, sym, ap, subst, arith}
use Rattle.std.specs.List.{Contains}
use Rattle.cl_reach.specs.declared.graph.Edge.{Edge}
use Rattle.cl_reach.specs.declared.propagate.Seed.{Seed}
use Rattle.cl_reach.specs.Reach.{Reaches, HasEdge, Carries, edge, seed}
use Rattle.cl_levels.specs.declared.uses.Use.{Use}
use Rattle.cl_levels.specs.declared.uses.Use.TheVariants.{Named, Called}
use Rattle.cl_levels.specs.Uses.{uses_of}
use Rattle.cl_levels.specs.Levels.{Annotated, body_of, Names, Calls}
use Rattle.cl_levels.proofs.Each.{head_or_tail, at_head, in_none, from_each, to_each}
use Rattle.cl_levels.proofs.Reaching.{closed, start, step, in_front}
use Rattle.cl_loans.specs.Naming.{back, laid, backs, names}

module _ (a : Annotated) where
  abbrev edges : List Edge
  edges = backs (uses_of a.typed)

  abbrev seeds : List Seed
  seeds = names (uses_of a.typed)

  called_by : (f p q : ℕ) (u : Use) → Contains (body_of a f) u → Contains (back f u) (edge p q) → (f ≡ q) × Calls a f p
  called_by f p q (Named k line) c h = absurd (in_none (edge p q) h)
  called_by f p q (Called g roots line) c h =
      ⊎_elim (λ (e : edge g f ≡ edge p q). (ap (λ (x : Edge). x.to) e, (roots, (line, subst (λ (n : ℕ). Contains (body_of a f) (Called n roots line)) (ap (λ (x : Edge). x.from) e) c))))
      (λ (z : Contains [] (edge p q)). absurd (in_none (edge p q) z)) (head_or_tail (edge g f) (edge p q) [] h)

  pub from_edge : (p q : ℕ) → HasEdge edges p q → Calls a q p
  from_edge p q h =
      let o = from_each back 0 (uses_of a.typed) (edge p q) h in
      let r = called_by o.by p q o.used o.stands (subst (λ (n : ℕ). Contains (back n o.used) (edge p q)) (omega arith) o.gave) in
      subst (λ (f : ℕ). Calls a f p) r.0 r.1

  pub to_edge : (p q : ℕ) → Calls a q p → HasEdge edges p q
  to_edge p q c =
      to_each back 0 (uses_of a.typed) q (Called p c.0 c.1.0) (edge p q) c.1.1
      (subst (λ (n : ℕ). Contains (back n (Called p c.0 c.1.0)) (edge p q)) (omega arith) (at_head (edge p q) []))

  named_by : (f g k : ℕ) (u : Use) → Contains (body_of a f) u → Contains (laid f u) (seed g k) → (f ≡ g) × Names a f k
  named_by f g k (Named j line) c h =
      ⊎_elim (λ (e : seed f j ≡ seed g k). (ap (λ (s : Seed). s.node) e, (line, subst (λ (n : ℕ). Contains (body_of a f) (Named n line)) (ap (λ (s : Seed). s.label) e) c)))
      (λ (z : Contains [] (seed g k)). absurd (in_none (seed g k) z)) (head_or_tail (seed f j) (seed g k) [] h)
  named_by f g k (Called h' roots line) c h = absurd (in_none (seed g k) h)

  pub from_seed : (g k : ℕ) → Contains seeds (seed g k) → Names a g k
  from_seed g k h =
      let o = from_each laid 0 (uses_of a.typed) (seed g k) h in
      let r = named_by o.by g k o.used o.stands (subst (λ (n : ℕ). Contains (laid n o.used) (seed g k)) (omega arith) o.gave) in
      subst (λ (f : ℕ). Names a f k) r.0 r.1

  pub to_seed : (g k : ℕ) → Names a g k → Contains seeds (seed g k)
  to_seed g k n =
      to_each laid 0 (uses_of a.typed) g (Named k n.0) (seed g k) n.1
      (subst (λ (m : ℕ). Contains (laid m (Named k n.0)) (seed g k)) (omega arith) (at_head (seed g k) []))

  -- a function that is reached by calls names the object
  abbrev pub NamesBehind : ℕ → ℕ → Type 0
  NamesBehind k g = (h : ℕ) × (Reaches (Calls a) (λ x. x ≡ g) h × Names a h k)

  pub carried_names : (k g : ℕ) → Carries seeds edges k g → NamesBehind k g
  carried_names k g c =
      closed (HasEdge edges) (λ x. Contains seeds (seed x k)) (NamesBehind k)
      (λ x s. (x, (start (Calls a) (λ y. y ≡ x) x refl, from_seed x k s)))
      (λ y x e n. (n.0, (in_front (Calls a) x y n.0 (from_edge y x e) n.1.0, n.1.1))) g c

  pub names_carried : (k g : ℕ) → NamesBehind k g → Carries seeds edges k g
  names_carried k g n =
      closed (Calls a) (λ x. x ≡ g) (λ x. Carries seeds edges k x → Carries seeds edges k g)
      (λ x is c. subst (Carries seeds edges k) is c)
      (λ y x calls behind c. behind (step (HasEdge edges) (λ z. Contains seeds (seed z k)) x y (to_edge x y calls) c))
      n.0 n.1.0 (start (HasEdge edges) (λ z. Contains seeds (seed z k)) n.0 (to_seed n.0 k n.1.1))
