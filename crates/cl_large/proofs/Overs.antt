-- Things that are counted, in order.
use Rattle.std.proofs.Common.{◌≡◌, ◌<◌, ◌+◌, List, [], ◌∷◌, ◌++◌, ℕ, suc, refl, sym, ap, ◌∙◌, Result, map, drop, get_or, length, drop-cons, add-one}
use Rattle.std.specs.List.{flat_map}
use Rattle.cl_tree.specs.declared.tree.Item.{Item}
use Rattle.std.proofs.lemmas.List.{append_assoc, append-nil}
use Rattle.cl_typing.specs.Rules.{Lines, Begins, unless}
use Rattle.cl_typing.specs.declared.totals.Totals.{Totals}
use Rattle.cl_typing.specs.Sizes.{Size, Counted, totals_after, within, line_of, over, in_item, in_items, sizes_after}
use Rattle.cl_scope.specs.Finds.{Finds}
use Rattle.cl_scope.specs.declared.stop.Stop.{Stop}
use Rattle.cl_scope.proofs.Searches.{begins_front, begins_behind, none_in_both, finds_behind}
use Rattle.cl_large.specs.Counts.{after_all}

over_append : (t : Totals) (a b : List Counted) → over t (a ++ b) ≡ over t a ++ over (after_all t a) b
unfolding over after_all
over_append t [] b = refl
over_append t (c ∷ a) b =
    rw (over_append (totals_after t c) a b) (sym (append_assoc (unless (within (totals_after t c) c) (line_of c)) (over
    (totals_after t c) a) (over (after_all (totals_after t c) a) b)))

pub after_append : (t : Totals) (a b : List Counted) → after_all t (a ++ b) ≡ after_all (after_all t a) b
unfolding after_all
after_append t [] b = refl
after_append t (c ∷ a) b = after_append (totals_after t c) a b

-- a place among the first things
pub over_front : (t : Totals) (a b : List Counted) (line : ℕ) → Begins (over t a) line → Begins (over t (a ++ b)) line
over_front t a b line h = rw (over_append t a b) (begins_front (over t a) (over (after_all t a) b) line h)

-- no place among the first things
pub over_behind : (t : Totals) (a b : List Counted) (line : ℕ) → over t a ≡ [] → Begins (over (after_all t a) b) line
    → Begins (over t (a ++ b)) line
over_behind t a b line e h = rw (over_append t a b) (begins_behind (over t a) (over (after_all t a) b) line e h)

pub over_none : (t : Totals) (a b : List Counted) → over t a ≡ [] → over (after_all t a) b ≡ [] → over t (a ++ b) ≡ []
over_none t a b e f = rw (over_append t a b) (none_in_both (over t a) (over (after_all t a) b) e f)

pub over_finds : (r : Result (Unit {0}) Stop) (t : Totals) (a b : List Counted) → over t a ≡ []
    → Finds r (over (after_all t a) b) → Finds r (over t (a ++ b))
over_finds r t a b e h = rw (over_append t a b) (finds_behind r (over t a) (over (after_all t a) b) e h)

-- one thing alone
pub finds_alone : (r : Result (Unit {0}) Stop) (a : Lines) → Finds r a → Finds r (a ++ [])
finds_alone r a h = rw (append-nil a) h

pub ruleset overs = (over_front, over_behind, over_none, over_finds, after_append)

-- ---- lists, an element at a time

module _ {X : Type 0} where
  pub at_index : (xs : List X) (x : X) (i : ℕ) → i < length xs → x ≡ get_or xs i x → drop i xs ≡ x ∷ drop (i + 1) xs
  at_index xs x i h is =
      drop-cons xs i x h ∙ ap (λ (y : X). y ∷ drop (suc i) xs) (sym is)
      ∙ ap (λ (n : ℕ). x ∷ drop n xs) (sym (add-one i))

  over_part : (f : X → List Counted) (xs : List X) (x : X) (i : ℕ) (t : Totals) → i < length xs → x ≡ get_or xs i x
      → over t (flat_map (λ cs. cs) (map f (drop i xs)))
      ≡ over t (f x) ++ over (after_all t (f x)) (flat_map (λ cs. cs) (map f (drop (i + 1) xs)))
  over_part f xs x i t h is =
      rw (at_index xs x i h is) (over_append t (f x) (flat_map (λ cs. cs) (map f (drop (i + 1) xs))))

  -- the places of a list, from one of its elements on
  pub over_here : (f : X → List Counted) (xs : List X) (x : X) (i : ℕ) (t : Totals) (whole : Lines) → i < length xs
      → x ≡ get_or xs i x → over t (flat_map (λ cs. cs) (map f (drop i xs))) ≡ whole
      → over t (f x) ++ over (after_all t (f x)) (flat_map (λ cs. cs) (map f (drop (i + 1) xs))) ≡ whole
  over_here f xs x i t whole h is e = sym (over_part f xs x i t h is) ∙ e

  pub over_next : (f : X → List Counted) (xs : List X) (x : X) (i : ℕ) (t new : Totals) (whole : Lines)
      → i < length xs → x ≡ get_or xs i x → over t (f x) ≡ [] → new ≡ after_all t (f x)
      → over t (flat_map (λ cs. cs) (map f (drop i xs))) ≡ whole
      → over new (flat_map (λ cs. cs) (map f (drop (i + 1) xs))) ≡ whole
  over_next f xs x i t new whole h is none behind e =
      ap (λ (u : Totals). over u (flat_map (λ cs. cs) (map f (drop (i + 1) xs)))) behind
      ∙ sym (ap (λ (ls : Lines). ls ++ over (after_all t (f x)) (flat_map (λ cs. cs) (map f (drop (i + 1) xs)))) none)
      ∙ over_here f xs x i t whole h is e

  pub after_next : (f : X → List Counted) (xs : List X) (x : X) (i : ℕ) (t new whole : Totals) → i < length xs
      → x ≡ get_or xs i x → new ≡ after_all t (f x)
      → after_all t (flat_map (λ cs. cs) (map f (drop i xs))) ≡ whole
      → after_all new (flat_map (λ cs. cs) (map f (drop (i + 1) xs))) ≡ whole
  after_next f xs x i t new whole h is behind e =
      ap (λ (u : Totals). after_all u (flat_map (λ cs. cs) (map f (drop (i + 1) xs)))) behind
      ∙ sym (after_append t (f x) (flat_map (λ cs. cs) (map f (drop (i + 1) xs))))
      ∙ sym (ap (λ (ys : List X). after_all t (flat_map (λ cs. cs) (map f ys))) (at_index xs x i h is)) ∙ e

-- the places of items, from one of them on
pub items_here : (sizes : List Size) (items : List Item) (item : Item) (i : ℕ) (t : Totals) (whole : Lines)
    → i < length items → item ≡ get_or items i item → over t (in_items sizes (drop i items)) ≡ whole
    → over t (in_item sizes item)
    ++ over (after_all t (in_item sizes item)) (in_items (sizes_after sizes item) (drop (i + 1) items)) ≡ whole
unfolding in_items
items_here sizes items item i t whole h is e =
    sym (over_append t (in_item sizes item) (in_items (sizes_after sizes item) (drop (i + 1) items)))
    ∙ sym (ap (λ (ys : List Item). over t (in_items sizes ys)) (at_index items item i h is)) ∙ e

pub items_next : (sizes newer : List Size) (items : List Item) (item : Item) (i : ℕ) (t new : Totals) (whole : Lines)
    → i < length items → item ≡ get_or items i item → over t (in_item sizes item) ≡ []
    → new ≡ after_all t (in_item sizes item) → newer ≡ sizes_after sizes item
    → over t (in_items sizes (drop i items)) ≡ whole → over new (in_items newer (drop (i + 1) items)) ≡ whole
items_next sizes newer items item i t new whole h is none behind sized e =
    ap (λ (u : Totals). over u (in_items newer (drop (i + 1) items))) behind
    ∙ ap (λ (ss : List Size). over (after_all t (in_item sizes item)) (in_items ss (drop (i + 1) items))) sized
    ∙ sym (ap (λ (ls : Lines). ls ++ over (after_all t (in_item sizes item))
    (in_items (sizes_after sizes item) (drop (i + 1) items))) none) ∙ items_here sizes items item i t whole h is e
