-- What is kept by each name that a function declares holds of the names at each of its places.
use Rattle.std.proofs.Common.{◌≡◌, List, [], ◌∷◌, refl, sym, Option, Some, None, subst, inl, inr}
use Rattle.cl_tree.specs.declared.tree.Expr.{Expr}
use Rattle.cl_tree.specs.declared.tree.Declarator.{Declarator}
use Rattle.cl_tree.specs.declared.tree.Stmt.{Stmt}
use Rattle.cl_tree.specs.declared.tree.Act.{Act, Act-F, out-Act}
use Rattle.cl_tree.specs.declared.tree.Act.TheOpen as act
use Rattle.cl_typing.specs.Scope.{Env, bound, with_names}
use Rattle.typing_laws.specs.Standing.{OneOf, Spot, looping, act_declares, declares, spot_after, spot_after_first, AmongStmts, PartOf, StandsIn, itself, in_part, AmongNames, Initialises, Evaluates}

module _ (P : Env → Type 0) where
  -- a declarator keeps it
  abbrev pub Keeps : Declarator → Type 0
  Keeps d = (names : Env) → P names → P (bound d ∷ names)

  abbrev pub AllKeep : List Declarator → Type 0
  AllKeep ds = (d : Declarator) → OneOf ds d → Keeps d

  pub names_keep : (ds : List Declarator) → AllKeep ds → (names : Env) → P names → P (with_names ds names)
  unfolding with_names
  names_keep [] k names h = h
  names_keep (d ∷ ds) k names h = names_keep ds (λ c o. k c (inr o)) (bound d ∷ names) (k d (inl refl) names h)

  pub before_keeps : (ds : List Declarator) → AllKeep ds → (names : Env) → P names → (d : Declarator) (before : Env) → AmongNames ds names d before → P (bound d ∷ before)
  before_keeps [] k names h d before a = absurd a
  before_keeps (c ∷ ds) k names h d before (inl a) =
      subst (λ (w : Declarator). P (bound w ∷ before)) (sym a.0) (subst (λ (w : Env). P (bound c ∷ w)) (sym a.1) (k c (inl refl) names h))
  before_keeps (c ∷ ds) k names h d before (inr a) = before_keeps ds (λ e o. k e (inr o)) (bound c ∷ names) (k c (inl refl) names h) d before a

  moved : (there names : Env) → there ≡ names → P names → P there
  moved there names e h = subst P (sym e) h

  pub initialises_keep : (ds : List Declarator) → AllKeep ds → (names : Env) → P names → (x : Expr) (there : Env) → Initialises ds names x there → P there
  initialises_keep ds k names h x there i = moved there (bound i.declarator ∷ i.before) i.known (before_keeps ds k names h i.declarator i.before i.among)

  -- K holds of a statement where it stands, and of its parts where they stand; what it declares keeps P
  module _ (K : Stmt → Spot → Type 0)
      (of_part : (t : Stmt) (spot : Spot) → K t spot → (s : Stmt) (there : Spot) → PartOf (out-Act t.node) spot s there → K s there)
      (own : (t : Stmt) (spot : Spot) → K t spot → AllKeep (declares t)) where
    abbrev pub All : (Stmt → Spot → Type 0) → Type 0
    All Has = (s : Stmt) (there : Spot) → Has s there → K s there

    after : (s : Stmt) (spot : Spot) → K s spot → P spot.names → P (spot_after s spot).names
    after s spot k h = names_keep (declares s) (own s spot k) spot.names h

    at_spot : (a b : Spot) → a ≡ b → P b.names → P a.names
    at_spot a b e h = subst (λ (w : Spot). P w.names) (sym e) h

    pub among_keeps : (ss : List Stmt) (spot : Spot) → All (AmongStmts ss spot) → P spot.names → (s : Stmt) (there : Spot) → AmongStmts ss spot s there → P there.names
    among_keeps [] spot k h s there a = absurd a
    among_keeps (c ∷ ss) spot k h s there (inl a) = at_spot there spot a.1 h
    among_keeps (c ∷ ss) spot k h s there (inr a) =
        among_keeps ss (spot_after c spot) (λ u w m. k u w (inr m)) (after c spot (k c spot (inl (refl, refl))) h) s there a

    first_keeps : (first : Option Stmt) (spot : Spot) → ((f : Stmt) → first ≡ Some f → K f spot) → P spot.names → P (spot_after_first first spot).names
    first_keeps None spot k h = h
    first_keeps (Some f) spot k h = after f spot (k f refl) h

    part_keeps : (y : Act-F Act Stmt) (spot : Spot) → All (PartOf y spot) → P spot.names → (s : Stmt) (there : Spot) → PartOf y spot s there → P there.names
    part_keeps act.Empty spot k h s there p = absurd p
    part_keeps (act.Block ss) spot k h s there p = among_keeps ss spot k h s there p
    part_keeps (act.Set op place value) spot k h s there p = absurd p
    part_keeps (act.Bump up prefix place) spot k h s there p = absurd p
    part_keeps (act.Call x) spot k h s there p = absurd p
    part_keeps (act.If c a b) spot k h s there p = at_spot there spot p.1 h
    part_keeps (act.While c body) spot k h s there p = at_spot there (looping spot) p.1 h
    part_keeps (act.DoWhile body c) spot k h s there p = at_spot there (looping spot) p.1 h
    part_keeps (act.For first test next body) spot k h s there (inl p) = at_spot there spot p.1 h
    part_keeps (act.For first test next body) spot k h s there (inr (inl p)) =
        at_spot there (spot_after_first first spot) p.1 (first_keeps first spot (λ f q. k f spot (inl (q, refl))) h)
    part_keeps (act.For first test next body) spot k h s there (inr (inr p)) =
        at_spot there (looping (spot_after_first first spot)) p.1 (first_keeps first spot (λ f q. k f spot (inl (q, refl))) h)
    part_keeps (act.Return x) spot k h s there p = absurd p
    part_keeps act.Break spot k h s there p = absurd p
    part_keeps act.Continue spot k h s there p = absurd p
    part_keeps (act.Declare d) spot k h s there p = absurd p
    part_keeps (act.Cle p) spot k h s there q = absurd q

    pub stands_all : (s : Stmt) (there : Spot) (u : Stmt) (spot : Spot) → StandsIn s there u spot → K u spot → K s there
    stands_all s there u spot itself k = k
    stands_all s there u spot (in_part part inner p i) k = stands_all s there part inner i (of_part u spot k part inner p)

    pub stands_keeps : (s : Stmt) (there : Spot) (u : Stmt) (spot : Spot) → StandsIn s there u spot → K u spot → P spot.names → P there.names
    stands_keeps s there u spot itself k h = h
    stands_keeps s there u spot (in_part part inner p i) k h =
        stands_keeps s there part inner i (of_part u spot k part inner p) (part_keeps (out-Act u.node) spot (of_part u spot k) h part inner p)

    evaluates_step : (y : Act-F Act Stmt) (spot : Spot) → All (PartOf y spot) → AllKeep (act_declares y) → P spot.names → (x : Expr) (there : Env) → Evaluates y spot x there → P there
    evaluates_step act.Empty spot k d h x there v = absurd v
    evaluates_step (act.Block ss) spot k d h x there v = absurd v
    evaluates_step (act.Set op place value) spot k d h x there v = moved there spot.names v.1 h
    evaluates_step (act.Bump up prefix place) spot k d h x there v = moved there spot.names v.1 h
    evaluates_step (act.Call e) spot k d h x there v = moved there spot.names v.1 h
    evaluates_step (act.If c a b) spot k d h x there v = moved there spot.names v.1 h
    evaluates_step (act.While c body) spot k d h x there v = moved there spot.names v.1 h
    evaluates_step (act.DoWhile body c) spot k d h x there v = moved there spot.names v.1 h
    evaluates_step (act.For first test next body) spot k d h x there v =
        moved there (spot_after_first first spot).names v.1 (first_keeps first spot (λ f p. k f spot (inl (p, refl))) h)
    evaluates_step (act.Return e) spot k d h x there v = moved there spot.names v.1 h
    evaluates_step act.Break spot k d h x there v = absurd v
    evaluates_step act.Continue spot k d h x there v = absurd v
    evaluates_step (act.Declare c) spot k d h x there v = initialises_keep c.names d spot.names h x there v
    evaluates_step (act.Cle p) spot k d h x there v = absurd v

    pub evaluates_keeps : (s : Stmt) (spot : Spot) → K s spot → P spot.names → (x : Expr) (there : Env) → Evaluates (out-Act s.node) spot x there → P there
    evaluates_keeps s spot k h x there v = evaluates_step (out-Act s.node) spot (of_part s spot k) (own s spot k) h x there v
