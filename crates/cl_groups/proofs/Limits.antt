-- Nodes and levels stay below their limits.
use Rattle.std.proofs.Common.{◌≡◌, ◌⊎◌, inl, inr, ⊎_elim, ◌≤◌, ◌<◌, ℕ, zero, suc, ◌*◌, ◌+◌, List, [], ◌∷◌, ◌++◌, map, length, All, Option, Some, None, Bool, ◌&&◌, slice_index_or, refl, sym, subst, arith}
use Rattle.std.specs.List.{Contains}
use Rattle.std.proofs.lemmas.List.Elements.{All-contains_itself, Contains-append_cases}
use Rattle.cl_base.specs.declared.limits.TheConstants.{FUNCTIONS, OBJECTS, LEVELS}
use Rattle.cl_reach.specs.declared.graph.Edge.{Edge}
use Rattle.cl_reach.specs.declared.propagate.Seed.{Seed}
use Rattle.cl_levels.specs.declared.uses.Body.{Body}
use Rattle.cl_levels.specs.declared.uses.Use.{Use}
use Rattle.cl_levels.specs.declared.uses.Use.TheVariants.{Named, Called}
use Rattle.cl_levels.specs.Levels.{Symbol, function, object}
use Rattle.cl_levels.proofs.Each.{in_none, Origin, from_each}
use Rattle.cl_groups.specs.declared.own.Own.{Own}
use Rattle.cl_groups.specs.Own.{own_at}
use Rattle.cl_groups.specs.Ties.{IsBelow, node, is_free, both, lay, join, lead, use_edges, use_seeds, edges_of, seeds_of}
use Rattle.cl_groups.proofs.Groups.{from_both, from_lay}

pub all_from : {X : Type 0} (P : X → Type 0) (xs : List X) → ((x : X) → Contains xs x → P x) → All P xs
all_from P xs h = λ k d l. h (slice_index_or xs k d) (All-contains_itself xs k d l)

-- a use of a function
pub used_at : (bodies : List Body) (f : ℕ) (u : Use) → All (λ b. All IsBelow b.uses) bodies → Contains (slice_index_or (map (λ b. b.uses) bodies) f []) u → IsBelow u × (f < length bodies)
used_at [] f u all h = absurd (in_none u h)
used_at (b ∷ bs) zero u all h = (subst IsBelow h.2 (all 0 b (omega arith) h.0 u h.1), omega arith)
used_at (b ∷ bs) (suc f) u all h = let r = used_at bs f u (λ k d l. all (suc k) d (omega arith)) h in (r.0, omega (arith, r.1))

function_below : (f : ℕ) → f < 4096 → node (function f) < 8192
function_below f l = omega arith

object_below : (k : ℕ) → k < 4096 → node (object k) < 8192
object_below k l = omega arith

module _ (own : Own) where
  edge_below : (x y : Symbol) (e : Edge) → node x < 8192 → node y < 8192 → Contains (join own x y) e → (e.from < 8192) × (e.to < 8192)
  edge_below x y e lx ly h =
      let b = from_both (is_free own x && is_free own y) (node x) (node y) e.from e.to h in
      ⊎_elim (λ (p : (node x ≡ e.from) × (node y ≡ e.to)). (subst (λ n. n < 8192) p.0 lx, subst (λ n. n < 8192) p.1 ly))
      (λ (p : (node y ≡ e.from) × (node x ≡ e.to)). (subst (λ n. n < 8192) p.0 ly, subst (λ n. n < 8192) p.1 lx)) b.1

  use_edge : (f : ℕ) (u : Use) (e : Edge) → f < 4096 → IsBelow u → Contains (use_edges own f u) e → (e.from < 8192) × (e.to < 8192)
  use_edge f (Named k line) e l b h = edge_below (function f) (object k) e (function_below f l) (object_below k b) h
  use_edge f (Called g roots line) e l b h = edge_below (function f) (function g) e (function_below f l) (function_below g b) h

  module _ (bodies : List Body) (few : length bodies ≤ 4096) (uses : All (λ b. All IsBelow b.uses) bodies) where
    pub edges_below : (e : Edge) → Contains (edges_of own 0 (map (λ b. b.uses) bodies)) e → (e.from < 8192) × (e.to < 8192)
    edges_below e h =
        let o = from_each (use_edges own) 0 (map (λ b. b.uses) bodies) e h in
        let u = used_at bodies o.by o.used uses o.stands in
        use_edge (0 + o.by) o.used e (omega (arith, u.1)) u.0 o.gave

    module _ (levels : (x : Symbol) (level : ℕ) → own_at own x ≡ Some level → level < 32) where
      lead_below : (x y : Symbol) (s : Seed) → node y < 8192 → Contains (lead own x y) s → (s.node < 8192) × (s.label < 32)
      lead_below x y s l h = let b = from_lay (own_at own x) (is_free own y) (node y) s.node s.label h in
          (subst (λ n. n < 8192) b.1.1 l, levels x s.label b.0)

      use_seed : (f : ℕ) (u : Use) (s : Seed) → f < 4096 → IsBelow u → Contains (use_seeds own f u) s → (s.node < 8192) × (s.label < 32)
      use_seed f (Named k line) s l b h =
          ⊎_elim (λ (c : Contains (lead own (function f) (object k)) s). lead_below (function f) (object k) s (object_below k b) c)
          (λ (c : Contains (lead own (object k) (function f)) s). lead_below (object k) (function f) s (function_below f l) c)
          (Contains-append_cases (lead own (function f) (object k)) (lead own (object k) (function f)) s h)
      use_seed f (Called g roots line) s l b h = lead_below (function f) (function g) s (function_below g b) h

      pub seeds_below : (s : Seed) → Contains (seeds_of own 0 (map (λ b. b.uses) bodies)) s → (s.node < 8192) × (s.label < 32)
      seeds_below s h =
          let o = from_each (use_seeds own) 0 (map (λ b. b.uses) bodies) s h in
          let u = used_at bodies o.by o.used uses o.stands in
          use_seed (0 + o.by) o.used s (omega (arith, u.1)) u.0 o.gave
