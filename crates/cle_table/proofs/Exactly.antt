-- A table has just what is carried.
use Rattle.std.proofs.Common.{◌≡◌, ◌↔◌, ◌<◌, ◌+◌, ◌/◌, ℕ, List, [], ◌∷◌, ◌++◌, refl, sym, ap, subst, ◌∙◌, Option, Some, None, length, map, All, append_assoc, arith}
use Rattle.std.specs.List.{flat_map}
use Rattle.std.proofs.lemmas.List.{length-map}
use Rattle.std.proofs.lemmas.List.Elements.{All-contains}
use Rattle.cl_mean.specs.declared.labels.Mention.{Mention}
use Rattle.cl_mean.specs.declared.labels.Mention.TheVariants.{Label, Level}
use Rattle.cl_mean.specs.declared.checked.Flow.{Flow}
use Rattle.cl_reach.specs.Reach as graph
use Rattle.cl_reach.specs.Reach.{Bears}
use Rattle.cle_ways.specs.declared.ways.Body.{Body}
use Rattle.cle_ways.specs.declared.ways.Holder.{Holder}
use Rattle.cle_ways.specs.declared.ways.Holder.TheVariants as holder
use Rattle.cle_ways.specs.declared.ways.Origin.TheVariants.{Just}
use Rattle.cle_ways.specs.declared.ways.Way.{Way}
use Rattle.cle_ways.specs.declared.ways.Note.{Note}
use Rattle.cle_ways.specs.Ways.{way}
use Rattle.cle_ways.specs.Carries.{Carries}
use Rattle.cle_ways.specs.Flow.{Sorted, IsCarried, AreFlows}
use Rattle.cle_table.specs.declared.table.Table.{Table}
use Rattle.cle_table.specs.Numbers.{number_of, node_of, label_number, ways_in, way_in, IsNumbered, WayNumbered, WayBelow, seeds_of, edges_of}
use Rattle.cle_table.specs.Lists.{Below, IsList, AreLists}
use Rattle.cle_table.specs.Exact.{list_at, HoldsAt, IsExact, CarriedBy, LocalsBy}
use Rattle.cle_table.proofs.Numbered.{node_within, node_is}
use Rattle.cle_table.proofs.Graphs.{none, way_noted, carries_least, to_graph, from_graph, carries_numbered}

-- ---- the ways among lists of notes

ways_append : (a b : List Note) → ways_in (a ++ b) ≡ ways_in a ++ ways_in b
unfolding ways_in
ways_append [] b = refl
ways_append (n ∷ a) b = ap (λ ws. way_in n ++ ws) (ways_append a b) ∙ sym (append_assoc (way_in n) (ways_in a) (ways_in b))

ways_bodies : (bs : List Body) → flat_map (λ b. ways_in b.notes) bs ≡ ways_in (flat_map (λ b. b.notes) bs)
unfolding ways_in
ways_bodies [] = refl
ways_bodies (b ∷ bs) = ap (λ ws. ways_in b.notes ++ ws) (ways_bodies bs) ∙ sym (ways_append b.notes (flat_map (λ c. c.notes) bs))

pub ways_whole : (a c : List Note) (bs ds : List Body) (start mid end : List Way) → c ≡ a → ds ≡ bs → start ≡ [] → mid ≡ start ++ ways_in c
    → end ≡ mid ++ flat_map (λ b. ways_in b.notes) ds → end ≡ ways_in (a ++ flat_map (λ b. b.notes) bs)
ways_whole a c bs ds start mid end i j e f g =
    g ∙ ap (λ xs. mid ++ flat_map (λ b. ways_in b.notes) xs) j
    ∙ ap (λ m. m ++ flat_map (λ b. ways_in b.notes) bs) (f ∙ ap (λ s. s ++ ways_in c) e ∙ ap ways_in i)
    ∙ ap (λ ws. ways_in a ++ ws) (ways_bodies bs) ∙ sym (ways_append a (flat_map (λ b. b.notes) bs))

-- ---- bits and lists

below_count : (count : ℕ) (m : Mention) → label_number m < count → Below ((count + 1) / 2) (count / 2) m
below_count count (Label k) h = omega (arith, h)
below_count count (Level k) h = omega (arith, h)

module _ (ns : List Note) (t : Table) (count : ℕ) (is : IsNumbered t.nodes) (all : All (WayNumbered t.nodes) (ways_in ns)) (few : All (WayBelow count) (ways_in ns))
    (sound : (m x : ℕ) → Bears t.bits m x → graph.Carries (seeds_of t.nodes (ways_in ns)) (edges_of t.nodes (ways_in ns)) m x)
    (complete : (m x : ℕ) → graph.Carries (seeds_of t.nodes (ways_in ns)) (edges_of t.nodes (ways_in ns)) m x → Bears t.bits m x)
    (lists : AreLists t.bits count (length t.nodes.holders.items) t.lists) where
  -- a label that is carried has a number below the count
  carries_below : (x : Holder) (m : Mention) → Carries ns x m → label_number m < count
  carries_below x m h = carries_least ns (λ y k. label_number k < count) (λ l y c. All-contains (WayBelow count) (ways_in ns) (way (Just l) y) few (way_noted ns (way (Just l) y) c)) (λ y z k c r. r) x m h

  at_node : (x : Holder) (n : ℕ) → number_of t.nodes x ≡ Some n → (m : Mention) → Bears t.bits (label_number m) n ↔ Carries ns x m
  at_node x n e m = (
    (λ b. from_graph t.nodes ns is all x m (n, e) (sound (label_number m) (node_of t.nodes x) (subst (λ k. Bears t.bits (label_number m) k) (sym (node_is t.nodes x n e)) b))),
    (λ h. subst (λ k. Bears t.bits (label_number m) k) (node_is t.nodes x n e) (complete (label_number m) (node_of t.nodes x) (to_graph t.nodes ns is all x m h))),
  )

  nothing : (x : Holder) → number_of t.nodes x ≡ None → (m : Mention) → Carries ns x m → ⊥
  nothing x e m h = let g = carries_numbered t.nodes ns is all x m h in apart (sym e ∙ g.1)
    where
      apart : {n : ℕ} → None ≡ Some n → ⊥
      apart q = absurd (cc)

  is_held : (x : Holder) (m : Mention) (o : Option ℕ) → number_of t.nodes x ≡ o → HoldsAt t o m ↔ Carries ns x m
  is_held x m None e = ((λ h. absurd h), (λ h. nothing x e m h))
  is_held x m (Some n) e = at_node x n e m

  is_listed : (x : Holder) (o : Option ℕ) → number_of t.nodes x ≡ o → IsCarried ns x (list_at t o)
  unfolding Sorted
  is_listed x None e = record { sorted = tt; exact = λ m. ((λ c. absurd (none m c)), (λ h. absurd (nothing x e m h))) }
  is_listed x (Some n) e = record {
    sorted = l.sorted;
    exact = λ m. ((λ c. (at_node x n e m).0 ((l.exact m).0 c).1), (λ h. (l.exact m).1 (below_count count m (carries_below x m h), (at_node x n e m).1 h)));
  }
    where
      l : IsList t.bits count n (list_at t (Some n))
      l = lists.each n (subst (λ k. k < length t.nodes.holders.items) (node_is t.nodes x n e) (node_within t.nodes x is (n, e)))

  pub is_exact : IsExact ns t
  is_exact = record {
    held = λ x m. is_held x m (number_of t.nodes x) refl;
    listed = λ x. is_listed x (number_of t.nodes x) refl;
  }

-- ---- the flow

pub are_flows : (ns : List Note) (t : Table) (count : ℕ) (functions : List Body) (flow : Flow) → IsExact ns t → CarriedBy t holder.Object count flow.objects
    → LocalsBy t functions flow.locals → CarriedBy t holder.Result (length functions) flow.results → AreFlows ns count (map (λ b. b.locals) functions) flow
are_flows ns t count functions flow e o l r = record {
  objects = o.same_length;
  of_objects = λ k h. subst (λ ms. IsCarried ns (holder.Object k) ms) (sym (o.each k (subst (λ n. k < n) o.same_length h))) (e.listed (holder.Object k));
  functions = l.same_length ∙ sym (length-map functions (λ b. b.locals));
  locals = λ f h. (l.each f (within f h)).same_length;
  of_locals = λ f h k i. let c = l.each f (within f h) in
      subst (λ ms. IsCarried ns (holder.Local f k) ms) (sym (c.each k (subst (λ n. k < n) c.same_length i))) (e.listed (holder.Local f k));
  results = r.same_length ∙ sym (length-map functions (λ b. b.locals));
  of_results = λ k h. subst (λ ms. IsCarried ns (holder.Result k) ms) (sym (r.each k (subst (λ n. k < n) r.same_length h))) (e.listed (holder.Result k));
}
  where
    within : (f : ℕ) → f < length (map (λ (b : Body). b.locals) functions) → f < length functions
    within f h = subst (λ n. f < n) (length-map functions (λ b. b.locals)) h
