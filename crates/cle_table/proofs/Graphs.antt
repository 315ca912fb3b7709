-- A holder carries a label just where the label reaches its node in the graph.
use Rattle.std.proofs.Common.{◌≡◌, ℕ, zero, suc, ◌<◌, ◌⊎◌, inl, inr, ⊎_elim, List, [], ◌∷◌, ◌++◌, refl, sym, ap, subst, ◌∙◌, length, get_or, All, arith}
use Rattle.std.proofs.lemmas.List.Elements.{Contains-append_left, Contains-append_right, Contains-append_cases, Contains-push_cases, Contains-push, All-contains, All-contains_itself}
use Rattle.std.specs.List.{Contains}
use Rattle.cl_mean.specs.declared.labels.Mention.{Mention}
use Rattle.cl_mean.specs.declared.labels.Mention.TheVariants.{Label, Level}
use Rattle.cl_reach.specs.declared.graph.Edge.{Edge}
use Rattle.cl_reach.specs.declared.propagate.Seed.{Seed}
use Rattle.cl_reach.specs.Reach as graph
use Rattle.cl_reach.proofs.Settled.{reaches_closed, reaches_start, reaches_step}
use Rattle.cle_ways.specs.declared.ways.Holder.{Holder}
use Rattle.cle_ways.specs.declared.ways.Origin.{Origin}
use Rattle.cle_ways.specs.declared.ways.Origin.TheVariants.{Just, AllOf}
use Rattle.cle_ways.specs.declared.ways.Way.{Way}
use Rattle.cle_ways.specs.declared.ways.Note.{Note}
use Rattle.cle_ways.specs.declared.ways.Note.TheVariants.{Flows, Bounds}
use Rattle.cle_ways.specs.Ways.{way}
use Rattle.cle_ways.specs.Carries.{Gives, CarriesWithin, Carries}
use Rattle.cle_table.specs.declared.nodes.Nodes.{Nodes}
use Rattle.cle_table.specs.Numbers.{way_in, ways_in, node_of, label_number, HasNumber, IsNumbered, WayNumbered, seeds_at, edges_at, seeds_of, edges_of, WayBelow}
use Rattle.cle_table.proofs.Numbered.{node_within, node_tells}

pub one : {X : Type 0} (y x : X) → Contains (y ∷ []) x → y ≡ x
one y x h = ⊎_elim (λ (n : Contains [] x). absurd (omega (arith, h.1, n.1))) (λ (e : y ≡ x). e) (Contains-push_cases [] y x h)

pub none : {X : Type 0} (x : X) → Contains [] x → ⊥
none x h = absurd (omega (arith, h.1))

pub heads : {X : Type 0} (y x : X) (ys : List X) → Contains (y ∷ ys) x → (y ≡ x) ⊎ Contains ys x
heads y x ys h = ⊎_elim (λ (l : Contains (y ∷ []) x). inl (one y x l)) (λ (r : Contains ys x). inr r) (Contains-append_cases (y ∷ []) ys x h)

pub later : {X : Type 0} (y x : X) (ys : List X) → Contains ys x → Contains (y ∷ ys) x
later y x ys h = Contains-append_right (y ∷ []) ys x h

pub first : {X : Type 0} (x : X) (ys : List X) → Contains (x ∷ ys) x
first x ys = Contains-append_left (x ∷ []) ys x (Contains-push [] x)

pub all_of : {X : Type 0} (P : X → Type 0) (xs : List X) → ((x : X) → Contains xs x → P x) → All P xs
all_of P xs f k d h = f (get_or xs k d) (All-contains_itself xs k d h)

-- ---- the ways among notes

pub way_noted : (ns : List Note) (w : Way) → Contains ns (Flows w) → Contains (ways_in ns) w
unfolding ways_in
way_noted [] w h = absurd (none (Flows w) h)
way_noted (n ∷ ns) w h = ⊎_elim
    (λ (e : n ≡ Flows w). subst (λ (m : Note). Contains (way_in m ++ ways_in ns) w) (sym e) (first w (ways_in ns)))
    (λ (r : Contains ns (Flows w)). Contains-append_right (way_in n) (ways_in ns) w (way_noted ns w r))
    (heads n (Flows w) ns h)

pub note_of : (ns : List Note) (w : Way) → Contains (ways_in ns) w → Contains ns (Flows w)
unfolding ways_in
note_of [] w h = absurd (none w h)
note_of (n ∷ ns) w h = ⊎_elim (λ (l : Contains (way_in n) w). at n l) (λ (r : Contains (ways_in ns) w). later n (Flows w) ns (note_of ns w r)) (Contains-append_cases (way_in n) (ways_in ns) w h)
  where
    at : (m : Note) → Contains (way_in m) w → Contains (m ∷ ns) (Flows w)
    at (Flows v) c = subst (λ (u : Way). Contains (Flows u ∷ ns) (Flows w)) (sym (one v w c)) (first (Flows w) ns)
    at (Bounds b) c = absurd (none w c)

-- ---- seeds and edges are of ways

pub seed_in : (s : Nodes) (ws : List Way) (m : Mention) (x : Holder) → Contains ws (way (Just m) x) → Contains (seeds_of s ws) (graph.seed (node_of s x) (label_number m))
unfolding seeds_of
seed_in s [] m x h = absurd (none (way (Just m) x) h)
seed_in s (w ∷ ws) m x h = ⊎_elim
    (λ (e : w ≡ way (Just m) x). subst (λ (v : Way). Contains (seeds_at s v v.from ++ seeds_of s ws) (graph.seed (node_of s x) (label_number m))) (sym e) (first (graph.seed (node_of s x) (label_number m)) (seeds_of s ws)))
    (λ (r : Contains ws (way (Just m) x)). Contains-append_right (seeds_at s w w.from) (seeds_of s ws) (graph.seed (node_of s x) (label_number m)) (seed_in s ws m x r))
    (heads w (way (Just m) x) ws h)

pub edge_in : (s : Nodes) (ws : List Way) (y x : Holder) → Contains ws (way (AllOf y) x) → Contains (edges_of s ws) (graph.edge (node_of s y) (node_of s x))
unfolding edges_of
edge_in s [] y x h = absurd (none (way (AllOf y) x) h)
edge_in s (w ∷ ws) y x h = ⊎_elim
    (λ (e : w ≡ way (AllOf y) x). subst (λ (v : Way). Contains (edges_at s v v.from ++ edges_of s ws) (graph.edge (node_of s y) (node_of s x))) (sym e) (first (graph.edge (node_of s y) (node_of s x)) (edges_of s ws)))
    (λ (r : Contains ws (way (AllOf y) x)). Contains-append_right (edges_at s w w.from) (edges_of s ws) (graph.edge (node_of s y) (node_of s x)) (edge_in s ws y x r))
    (heads w (way (AllOf y) x) ws h)

abbrev pub SeedOf : Nodes → List Way → Seed → Type 0
SeedOf s ws d = (m : Mention) × ((x : Holder) × (Contains ws (way (Just m) x) × ((node_of s x ≡ d.node) × (label_number m ≡ d.label))))

abbrev pub EdgeOf : Nodes → List Way → Edge → Type 0
EdgeOf s ws d = (y : Holder) × ((x : Holder) × (Contains ws (way (AllOf y) x) × ((node_of s y ≡ d.from) × (node_of s x ≡ d.to))))

pub seed_out : (s : Nodes) (ws : List Way) (d : Seed) → Contains (seeds_of s ws) d → SeedOf s ws d
unfolding seeds_of
seed_out s [] d h = absurd (none d h)
seed_out s (w ∷ ws) d h = ⊎_elim
    (λ (c : Contains (seeds_at s w w.from) d). at w.from w.into c)
    (λ (r : Contains (seeds_of s ws) d). let t = seed_out s ws d r in (t.0, (t.1.0, (later w (way (Just t.0) t.1.0) ws t.1.1.0, t.1.1.1))))
    (Contains-append_cases (seeds_at s w w.from) (seeds_of s ws) d h)
  where
    at : (o : Origin) (x : Holder) → Contains (seeds_at s (way o x) o) d → SeedOf s (way o x ∷ ws) d
    at (Just m) x c = let e = one (graph.seed (node_of s x) (label_number m)) d c in (m, (x, (first (way (Just m) x) ws, (ap (λ (q : Seed). q.node) e, ap (λ (q : Seed). q.label) e))))
    at (AllOf y) x c = absurd (none d c)

pub edge_out : (s : Nodes) (ws : List Way) (d : Edge) → Contains (edges_of s ws) d → EdgeOf s ws d
unfolding edges_of
edge_out s [] d h = absurd (none d h)
edge_out s (w ∷ ws) d h = ⊎_elim
    (λ (c : Contains (edges_at s w w.from) d). at w.from w.into c)
    (λ (r : Contains (edges_of s ws) d). let t = edge_out s ws d r in (t.0, (t.1.0, (later w (way (AllOf t.0) t.1.0) ws t.1.1.0, t.1.1.1))))
    (Contains-append_cases (edges_at s w w.from) (edges_of s ws) d h)
  where
    at : (o : Origin) (x : Holder) → Contains (edges_at s (way o x) o) d → EdgeOf s (way o x ∷ ws) d
    at (Just m) x c = absurd (none d c)
    at (AllOf y) x c = let e = one (graph.edge (node_of s y) (node_of s x)) d c in (y, (x, (first (way (AllOf y) x) ws, (ap (λ (q : Edge). q.from) e, ap (λ (q : Edge). q.to) e))))

-- ---- what is carried is the least relation

pub carries_just : (ns : List Note) (m : Mention) (x : Holder) → Contains ns (Flows (way (Just m) x)) → Carries ns x m
carries_just ns m x c = (1, inr (Just m, (c, refl)))

pub carries_on : (ns : List Note) (y x : Holder) (m : Mention) → Contains ns (Flows (way (AllOf y) x)) → Carries ns y m → Carries ns x m
carries_on ns y x m c h = (suc h.0, inr (AllOf y, (c, h.1)))

pub carries_least : (ns : List Note) (C : Holder → Mention → Type 0) → ((m : Mention) (x : Holder) → Contains ns (Flows (way (Just m) x)) → C x m)
    → ((y x : Holder) (m : Mention) → Contains ns (Flows (way (AllOf y) x)) → C y m → C x m) → (x : Holder) (m : Mention) → Carries ns x m → C x m
carries_least ns C starts steps x m h = go h.0 x m h.1
  where
    by : (n : ℕ) → ((y : Holder) (k : Mention) → CarriesWithin ns n y k → C y k) → (o : Origin) (x : Holder) (m : Mention) → Contains ns (Flows (way o x)) → Gives (CarriesWithin ns n) o m → C x m
    by n ih (Just l) x m c e = subst (λ (k : Mention). C x k) e (starts l x c)
    by n ih (AllOf y) x m c g = steps y x m c (ih y m g)

    go : (n : ℕ) (x : Holder) (m : Mention) → CarriesWithin ns n x m → C x m
    go zero x m h = absurd h
    go (suc n) x m h = ⊎_elim (λ (l : CarriesWithin ns n x m). go n x m l) (λ (r : (o : Origin) × (Contains ns (Flows (way o x)) × Gives (CarriesWithin ns n) o m)). by n (go n) r.0 x m r.1.0 r.1.1) h

label_tells : (l m : Mention) → label_number l ≡ label_number m → l ≡ m
label_tells (Label a) (Label b) e = ap Label (omega (arith, e))
label_tells (Label a) (Level b) e = absurd (omega (arith, e))
label_tells (Level a) (Label b) e = absurd (omega (arith, e))
label_tells (Level a) (Level b) e = ap Level (omega (arith, e))

-- ---- the graph

module _ (s : Nodes) (ns : List Note) (is : IsNumbered s) (all : All (WayNumbered s) (ways_in ns)) where
  numbered : (w : Way) → Contains ns (Flows w) → WayNumbered s w
  numbered w c = All-contains (WayNumbered s) (ways_in ns) w all (way_noted ns w c)

  abbrev pub ReachesNode : Mention → ℕ → Type 0
  ReachesNode m n = graph.Carries (seeds_of s (ways_in ns)) (edges_of s (ways_in ns)) (label_number m) n

  pub to_graph : (x : Holder) (m : Mention) → Carries ns x m → ReachesNode m (node_of s x)
  to_graph x m h = carries_least ns (λ y k. ReachesNode k (node_of s y))
      (λ l y c. reaches_start (graph.HasEdge (edges_of s (ways_in ns))) (λ z. Contains (seeds_of s (ways_in ns)) (graph.seed z (label_number l))) (node_of s y) (seed_in s (ways_in ns) l y (way_noted ns (way (Just l) y) c)))
      (λ y z k c r. reaches_step (graph.HasEdge (edges_of s (ways_in ns))) (λ v. Contains (seeds_of s (ways_in ns)) (graph.seed v (label_number k))) (node_of s y) (node_of s z) (edge_in s (ways_in ns) y z (way_noted ns (way (AllOf y) z) c)) r)
      x m h

  -- what carries anything has a number
  pub carries_numbered : (x : Holder) (m : Mention) → Carries ns x m → HasNumber s x
  carries_numbered x m h = carries_least ns (λ y k. HasNumber s y) (λ l y c. (numbered (way (Just l) y) c).0) (λ y z k c r. (numbered (way (AllOf y) z) c).0) x m h

  pub from_graph : (x : Holder) (m : Mention) → HasNumber s x → ReachesNode m (node_of s x) → Carries ns x m
  from_graph x m hx h = reaches_closed (graph.HasEdge (edges_of s (ways_in ns))) (λ z. Contains (seeds_of s (ways_in ns)) (graph.seed z (label_number m)))
      (λ n. (y : Holder) → HasNumber s y → node_of s y ≡ n → Carries ns y m)
      (λ n c y hy e. start n y hy e (seed_out s (ways_in ns) (graph.seed n (label_number m)) c))
      (λ a b c r y hy e. step a b r y hy e (edge_out s (ways_in ns) (graph.edge a b) c))
      (node_of s x) h x hx refl
    where
      start : (n : ℕ) (y : Holder) → HasNumber s y → node_of s y ≡ n → SeedOf s (ways_in ns) (graph.seed n (label_number m)) → Carries ns y m
      start n y hy e t =
          let c : Contains ns (Flows (way (Just t.0) t.1.0)) = note_of ns (way (Just t.0) t.1.0) t.1.1.0 in
          let same : t.1.0 ≡ y = node_tells s t.1.0 y is (numbered (way (Just t.0) t.1.0) c).0 hy (t.1.1.1.0 ∙ sym e) in
          let label : t.0 ≡ m = label_tells t.0 m t.1.1.1.1 in
          subst (λ (k : Mention). Carries ns y k) label (subst (λ (z : Holder). Carries ns z t.0) same (carries_just ns t.0 t.1.0 c))

      step : (a b : ℕ) → ((y : Holder) → HasNumber s y → node_of s y ≡ a → Carries ns y m) → (y : Holder) → HasNumber s y → node_of s y ≡ b → EdgeOf s (ways_in ns) (graph.edge a b) → Carries ns y m
      step a b r y hy e t =
          let c : Contains ns (Flows (way (AllOf t.0) t.1.0)) = note_of ns (way (AllOf t.0) t.1.0) t.1.1.0 in
          let same : t.1.0 ≡ y = node_tells s t.1.0 y is (numbered (way (AllOf t.0) t.1.0) c).0 hy (t.1.1.1.1 ∙ sym e) in
          subst (λ (z : Holder). Carries ns z m) same (carries_on ns t.0 t.1.0 m c (r t.0 (numbered (way (AllOf t.0) t.1.0) c).1 t.1.1.1.0))

-- ---- the numbers are within

module _ (s : Nodes) (ws : List Way) (is : IsNumbered s) (all : All (WayNumbered s) ws) where
  way_has : (w : Way) → Contains ws w → WayNumbered s w
  way_has w c = All-contains (WayNumbered s) ws w all c

  pub seeds_within : All (λ (d : Seed). d.node < length s.holders.items) (seeds_of s ws)
  seeds_within = all_of (λ (d : Seed). d.node < length s.holders.items) (seeds_of s ws) (λ d c. by d (seed_out s ws d c))
    where
      by : (d : Seed) → SeedOf s ws d → d.node < length s.holders.items
      by d t = subst (λ n. n < length s.holders.items) t.1.1.1.0 (node_within s t.1.0 is (way_has (way (Just t.0) t.1.0) t.1.1.0).0)

  pub sources_within : All (λ (d : Edge). d.from < length s.holders.items) (edges_of s ws)
  sources_within = all_of (λ (d : Edge). d.from < length s.holders.items) (edges_of s ws) (λ d c. by d (edge_out s ws d c))
    where
      by : (d : Edge) → EdgeOf s ws d → d.from < length s.holders.items
      by d t = subst (λ n. n < length s.holders.items) t.1.1.1.0 (node_within s t.0 is (way_has (way (AllOf t.0) t.1.0) t.1.1.0).1)

  pub targets_within : All (λ (d : Edge). d.to < length s.holders.items) (edges_of s ws)
  targets_within = all_of (λ (d : Edge). d.to < length s.holders.items) (edges_of s ws) (λ d c. by d (edge_out s ws d c))
    where
      by : (d : Edge) → EdgeOf s ws d → d.to < length s.holders.items
      by d t = subst (λ n. n < length s.holders.items) t.1.1.1.1 (node_within s t.1.0 is (way_has (way (AllOf t.0) t.1.0) t.1.1.0).0)

pub labels_within : (s : Nodes) (ws : List Way) (count : ℕ) → All (WayBelow count) ws → All (λ (d : Seed). d.label < count) (seeds_of s ws)
labels_within s ws count below = all_of (λ (d : Seed). d.label < count) (seeds_of s ws) (λ d c. by d (seed_out s ws d c))
  where
    by : (d : Seed) → SeedOf s ws d → d.label < count
    by d t = subst (λ n. n < count) t.1.1.1.1 (All-contains (WayBelow count) ws (way (Just t.0) t.1.0) below t.1.1.0)
