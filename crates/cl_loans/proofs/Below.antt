-- Nodes and labels of the graph stay below the limits of a program.
use Rattle.std.proofs.Common.{◌≡◌, ◌<◌, ◌≤◌, ⊎_elim, ℕ, ◌+◌, List, [], ◌∷◌, map, length, All, ap, subst, arith}
use Rattle.std.specs.List.{Contains}
use Rattle.cl_reach.specs.declared.graph.Edge.{Edge}
use Rattle.cl_reach.specs.declared.propagate.Seed.{Seed}
use Rattle.cl_reach.specs.Reach.{edge, seed}
use Rattle.cl_groups.specs.Ties.{IsBelow}
use Rattle.cl_groups.proofs.Limits.{used_at}
use Rattle.cl_levels.specs.declared.uses.Body.{Body}
use Rattle.cl_levels.specs.declared.uses.Use.{Use}
use Rattle.cl_levels.specs.declared.uses.Use.TheVariants.{Named, Called}
use Rattle.cl_levels.proofs.Each.{head_or_tail, in_none, from_each}
use Rattle.cl_loans.specs.Naming.{back, laid, backs, names}

laid_by : (f : ℕ) (u : Use) (s : Seed) → f < 4096 → IsBelow u → Contains (laid f u) s → (s.node < 4096) × (s.label < 4096)
laid_by f (Named k line) s l b h =
    ⊎_elim (λ (e : seed f k ≡ s). (subst (λ n. n < 4096) (ap (λ (x : Seed). x.node) e) l, subst (λ n. n < 4096) (ap (λ (x : Seed). x.label) e) b))
    (λ (z : Contains [] s). absurd (in_none s z)) (head_or_tail (seed f k) s [] h)
laid_by f (Called g roots line) s l b h = absurd (in_none s h)

back_by : (f : ℕ) (u : Use) (e : Edge) → f < 4096 → IsBelow u → Contains (back f u) e → (e.from < 4096) × (e.to < 4096)
back_by f (Named k line) e l b h = absurd (in_none e h)
back_by f (Called g roots line) e l b h =
    ⊎_elim (λ (i : edge g f ≡ e). (subst (λ n. n < 4096) (ap (λ (x : Edge). x.from) i) b, subst (λ n. n < 4096) (ap (λ (x : Edge). x.to) i) l))
    (λ (z : Contains [] e). absurd (in_none e z)) (head_or_tail (edge g f) e [] h)

module _ (bodies : List Body) (few : length bodies ≤ 4096) (uses : All (λ b. All IsBelow b.uses) bodies) where
  pub names_below : (s : Seed) → Contains (names (map (λ b. b.uses) bodies)) s → (s.node < 4096) × (s.label < 4096)
  names_below s h =
      let o = from_each laid 0 (map (λ b. b.uses) bodies) s h in
      let u = used_at bodies o.by o.used uses o.stands in
      laid_by (0 + o.by) o.used s (omega (arith, u.1)) u.0 o.gave

  pub backs_below : (e : Edge) → Contains (backs (map (λ b. b.uses) bodies)) e → (e.from < 4096) × (e.to < 4096)
  backs_below e h =
      let o = from_each back 0 (map (λ b. b.uses) bodies) e h in
      let u = used_at bodies o.by o.used uses o.stands in
      back_by (0 + o.by) o.used e (omega (arith, u.1)) u.0 o.gave
