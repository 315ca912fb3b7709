-- Numbers stay apart, and those that have one keep one.
use Rattle.std.proofs.Common.{◌≡◌, ◌⊎◌, inl, inr, ◌<◌, ◌+◌, ℕ, List, [], ◌∷◌, ◌++◌, refl, sym, ap, subst, ◌∙◌, Option, Some, None, length, take, get_or, All, add-one, arith}
use Rattle.std.specs.List.{slice_get}
use Rattle.std.proofs.lemmas.Option.{slice_get_within, slice_get-get_or, get_or_from_slice_get}
use Rattle.std.proofs.lemmas.List.{get_or_append_left, length-append}
use Rattle.std.proofs.Math.Seq.{take-suc, get_or-append_seam}
use Rattle.std.proofs.lemmas.List.Elements.{All-push}
use Rattle.cle_ways.specs.declared.ways.Holder.{Holder}
use Rattle.cle_ways.specs.declared.ways.Origin.{Origin}
use Rattle.cle_ways.specs.declared.ways.Origin.TheVariants.{Just, AllOf}
use Rattle.cle_ways.specs.declared.ways.Way.{Way}
use Rattle.cle_table.specs.declared.nodes.Nodes.{Nodes}
use Rattle.cle_table.specs.Numbers.{number_of, Puts, HasNumber, IsNumbered, OriginNumbered, WayNumbered, node_of}

slice_get_push : {A : Type 0} (xs : List A) (y x : A) (n : ℕ) → slice_get xs n ≡ Some x → slice_get (xs ++ y ∷ []) n ≡ Some x
slice_get_push xs y x n e =
    let h = slice_get_within xs n x e in
    let l = length-append xs (y ∷ []) in
    slice_get-get_or (xs ++ y ∷ []) n y (omega arith) ∙ ap Some (get_or_append_left xs (y ∷ []) y n h ∙ get_or_from_slice_get xs n x y e)

slice_get_last : {A : Type 0} (xs : List A) (y : A) → slice_get (xs ++ y ∷ []) (length xs) ≡ Some y
slice_get_last xs y =
    let l = length-append xs (y ∷ []) in
    slice_get-get_or (xs ++ y ∷ []) (length xs) y (omega arith) ∙ ap Some (get_or-append_seam xs y [] y)

pub numbered_more : (s t : Nodes) (x : Holder) → IsNumbered s → Puts (number_of s) (number_of t) x (length s.holders.items)
    → t.holders.items ≡ s.holders.items ++ x ∷ [] → IsNumbered t
numbered_more s t x is p e y n h = subst (λ hs. slice_get hs n ≡ Some y) (sym e) (by (p.only y n h))
  where
    by : (number_of s y ≡ Some n) ⊎ ((y ≡ x) × (n ≡ length s.holders.items)) → slice_get (s.holders.items ++ x ∷ []) n ≡ Some y
    by (inl q) = slice_get_push s.holders.items x y n (is y n q)
    by (inr q) = rw q.0 (rw q.1 (slice_get_last s.holders.items x))

pub has_more : (s t : Nodes) (x : Holder) (number : ℕ) → Puts (number_of s) (number_of t) x number → (y : Holder) → HasNumber s y → HasNumber t y
has_more s t x number p y h = p.kept y h.0 h.1

-- ---- ways

pub origin_more : (s t : Nodes) → ((y : Holder) → HasNumber s y → HasNumber t y) → (o : Origin) → OriginNumbered s o → OriginNumbered t o
origin_more s t k (Just m) h = tt
origin_more s t k (AllOf x) h = k x h

pub all_more : (s t : Nodes) → ((y : Holder) → HasNumber s y → HasNumber t y) → (ws : List Way) → All (WayNumbered s) ws → All (WayNumbered t) ws
all_more s t k ws a i d h = (k (get_or ws i d).into (a i d h).0, origin_more s t k (get_or ws i d).from (a i d h).1)

pub way_more : (s t : Nodes) (ws : List Way) (i : ℕ) (d : Way) → i < length ws → ((y : Holder) → HasNumber s y → HasNumber t y)
    → All (WayNumbered s) (take i ws) → WayNumbered t (get_or ws i d) → All (WayNumbered t) (take (i + 1) ws)
way_more s t ws i d h k a n =
    let taken : take (i + 1) ws ≡ take i ws ++ get_or ws i d ∷ [] = ap (λ n. take n ws) (add-one i) ∙ take-suc ws i d h in
    subst (λ (xs : List Way). All (WayNumbered t) xs) (sym taken) (All-push (WayNumbered t) (take i ws) (get_or ws i d) (all_more s t k (take i ws) a) n)

-- the number of one that has one is below the count, and tells it
pub node_within : (s : Nodes) (x : Holder) → IsNumbered s → HasNumber s x → node_of s x < length s.holders.items
node_within s x is h = by (number_of s x) refl h.1
  where
    by : (o : Option ℕ) → number_of s x ≡ o → o ≡ Some h.0 → node_of s x < length s.holders.items
    by (Some n) e f = rw e (slice_get_within s.holders.items n x (is x n e))
    by None e f = absurd (cc)

pub node_is : (s : Nodes) (x : Holder) (n : ℕ) → number_of s x ≡ Some n → node_of s x ≡ n
node_is s x n e = rw e refl

pub node_tells : (s : Nodes) (x y : Holder) → IsNumbered s → HasNumber s x → HasNumber s y → node_of s x ≡ node_of s y → x ≡ y
node_tells s x y is h g e =
    let a : h.0 ≡ g.0 = sym (node_is s x h.0 h.1) ∙ (e ∙ node_is s y g.0 g.1) in
    let b : slice_get s.holders.items h.0 ≡ Some x = is x h.0 h.1 in
    let c : slice_get s.holders.items g.0 ≡ Some y = is y g.0 g.1 in
    same (sym b ∙ (ap (λ k. slice_get s.holders.items k) a ∙ c))
  where
    same : Some x ≡ Some y → x ≡ y
    same q = cc
