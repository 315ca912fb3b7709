-- The state of a spread: what was passed on, and what still waits.
use Rattle.std.proofs.Common.{◌≡◌, ℕ, zero, suc, ◌<◌, ◌≤◌, ◌+◌, ◌⊎◌, inl, inr, ⊎_elim, List, [], ◌∷◌, length, get_or, refl, sym, subst, ◌∙◌, arith}
use Rattle.std.proofs.lemmas.List.Elements.{Contains-append_cases}
use Rattle.std.proofs.lemmas.List.{get_or_past}
use Rattle.std.proofs.lemmas.Nat.Bits.{bit_at-zero}
use Rattle.std.proofs.lemmas.Bool.{cases_eq, cases_lt}
use Rattle.std.proofs.Math.Nat.{eq-or-lt_of_le}
use Rattle.std.specs.Int.{bit_at}
use Rattle.std.specs.List.{Contains}
use Rattle.cl_reach.specs.Reach.{Leads, Reaches, ReachesWithin, Has}
use Rattle.cl_reach.specs.Spread.{PassesOn}

-- what lies in a set that has the starts and that no edge leaves
pub reaches_closed : (Edge : ℕ → ℕ → Type 0) (Start C : ℕ → Type 0) → ((x : ℕ) → Start x → C x) → ((y x : ℕ) → Edge y x → C y → C x) → (x : ℕ) → Reaches Edge Start x → C x
reaches_closed Edge Start C starts steps x h = go h.0 x h.1
  where
    go : (n x : ℕ) → ReachesWithin Edge Start n x → C x
    go zero x h = starts x h
    go (suc n) x h = ⊎_elim (λ (l : ReachesWithin Edge Start n x). go n x l) (λ (r : (y : ℕ) × (Edge y x × ReachesWithin Edge Start n y)). steps r.0 x r.1.0 (go n r.0 r.1.1)) h

pub reaches_start : (Edge : ℕ → ℕ → Type 0) (Start : ℕ → Type 0) (x : ℕ) → Start x → Reaches Edge Start x
reaches_start Edge Start x h = (0, h)

pub reaches_step : (Edge : ℕ → ℕ → Type 0) (Start : ℕ → Type 0) (y x : ℕ) → Edge y x → Reaches Edge Start y → Reaches Edge Start x
reaches_step Edge Start y x e h = (suc h.0, inr (y, (e, h.1)))

-- the targets of a node have all that it has
abbrev pub Closed : List (List ℕ) → List ℕ → ℕ → Type 0
Closed graph words x = (k y : ℕ) → Has words k x → Leads graph x y → Has words k y

-- the words at the start and now, and the queue
pub record Spreading (graph : List (List ℕ)) (start words queue : List ℕ) : Type 0 where
  pub same_length : length words ≡ length start
  pub sound : (k x : ℕ) → Has words k x → Reaches (Leads graph) (Has start k) x
  pub kept : (k x : ℕ) → Has start k x → Has words k x
  pub settled : (x : ℕ) → Contains queue x ⊎ Closed graph words x
  pub nodes : (x : ℕ) → Contains queue x → x < length start

contains_head : (y x : ℕ) (ys : List ℕ) → Contains (y ∷ ys) x → (y ≡ x) ⊎ Contains ys x
contains_head y x ys h = ⊎_elim (λ (l : Contains (y ∷ []) x). inl (only l.0 l.1 l.2)) (λ (r : Contains ys x). inr r) (Contains-append_cases (y ∷ []) ys x h)
  where
    only : (k : ℕ) → k < 1 → get_or (y ∷ []) k x ≡ x → y ≡ x
    only zero l e = e
    only (suc k) l e = absurd (omega arith)

contains_tail : (y x : ℕ) (ys : List ℕ) → Contains ys x → Contains (y ∷ ys) x
contains_tail y x ys h = (suc h.0, omega (arith, h.1), h.2)

-- one node has its turn
pub spread_more : (graph : List (List ℕ)) (start words words' queue queue' : List ℕ) (x : ℕ) → Spreading graph start words (x ∷ queue) → PassesOn (get_or graph x []) (get_or words x 0) words words' queue queue' → ((y : ℕ) → Contains (get_or graph x []) y → y < length start) → Spreading graph start words' queue'
spread_more graph start words words' queue queue' x s p targets = record {
  same_length = p.same_length ∙ s.same_length;
  sound = λ k y h. ⊎_elim (λ (l : Has words k y). s.sound k y l) (λ (r : (bit_at (get_or words x 0) k ≡ 1) × Contains (get_or graph x []) y). reaches_step (Leads graph) (Has start k) x y r.1 (s.sound k x r.0)) (p.only k y h);
  kept = λ k y h. p.kept k y (s.kept k y h);
  settled = λ y. settle y (p.changed y) (s.settled y);
  nodes = λ y h. ⊎_elim (λ (l : Contains queue y). s.nodes y (contains_tail x y queue l)) (λ (r : Contains (get_or graph x []) y). targets y r) (p.within y h);
}
  where
    still : (y : ℕ) → get_or words' y 0 ≡ get_or words y 0 → Closed graph words y → Closed graph words' y
    still y e c k z h l = p.kept k z (c k z (subst (λ (v : ℕ). bit_at v k ≡ 1) e h) l)

    given : (y : ℕ) → x ≡ y → get_or words' y 0 ≡ get_or words y 0 → Closed graph words' y
    given y same e k z h l =
        let b : bit_at (get_or words x 0) k ≡ 1 = subst (λ (v : ℕ). bit_at (get_or words v 0) k ≡ 1) (sym same) (subst (λ (v : ℕ). bit_at v k ≡ 1) e h) in
        let t : Contains (get_or graph x []) z = subst (λ (v : ℕ). Contains (get_or graph v []) z) (sym same) l in
        p.given k z b t

    settle : (y : ℕ) → (get_or words' y 0 ≡ get_or words y 0) ⊎ Contains queue' y → Contains (x ∷ queue) y ⊎ Closed graph words y → Contains queue' y ⊎ Closed graph words' y
    settle y (inr h) s = inl h
    settle y (inl e) (inr c) = inr (still y e c)
    settle y (inl e) (inl h) = ⊎_elim (λ (same : x ≡ y). inr (given y same e)) (λ (r : Contains queue y). inl (p.waits y r)) (contains_head x y queue h)

-- before the first turn
pub spread_none : (graph : List (List ℕ)) (start queue : List ℕ) → ((x : ℕ) → (get_or start x 0 ≡ 0) ⊎ Contains queue x) → ((x : ℕ) → Contains queue x → x < length start) → Spreading graph start start queue
spread_none graph start queue waits nodes = record {
  same_length = refl;
  sound = λ k x h. reaches_start (Leads graph) (Has start k) x h;
  kept = λ k x h. h;
  settled = λ x. ⊎_elim (λ (e : get_or start x 0 ≡ 0). inr (λ k y h l. absurd (nothing k x e h))) (λ (h : Contains queue x). inl h) (waits x);
  nodes = nodes;
}
  where
    nothing : (k x : ℕ) → get_or start x 0 ≡ 0 → Has start k x → ⊥
    nothing k x e h = let z : bit_at 0 k ≡ 0 = bit_at-zero k in let o : bit_at 0 k ≡ 1 = subst (λ (v : ℕ). bit_at v k ≡ 1) e h in omega arith

pub spread_all : (graph : List (List ℕ)) (start words : List ℕ) → Spreading graph start words [] → (k x : ℕ) → Reaches (Leads graph) (Has start k) x → Has words k x
spread_all graph start words s k = reaches_closed (Leads graph) (Has start k) (λ x. Has words k x) (λ x h. s.kept k x h) (λ y x l h. ⊎_elim (λ (n : Contains [] y). absurd (omega (arith, n.1))) (λ (c : Closed graph words y). c k x h l) (s.settled y))

-- queueing the nodes that have a bit
pub record Marked (words : List ℕ) (n : ℕ) (queue : List ℕ) : Type 0 where
  pub waits : (x : ℕ) → x < n → (get_or words x 0 ≡ 0) ⊎ Contains queue x
  pub nodes : (x : ℕ) → Contains queue x → x < length words

pub marked_more : (words : List ℕ) (n : ℕ) (queue queue' : List ℕ) → Marked words n queue → n < length words → (get_or words n 0 ≡ 0) ⊎ Contains queue' n → ((x : ℕ) → Contains queue x → Contains queue' x) → ((x : ℕ) → Contains queue' x → Contains queue x ⊎ (x ≡ n)) → Marked words (n + 1) queue'
marked_more words n queue queue' m h here kept only = record {
  waits = λ x l. ⊎_elim (λ (e : x ≡ n). subst (λ (y : ℕ). (get_or words y 0 ≡ 0) ⊎ Contains queue' y) (sym e) here) (λ (o : x ≡ n → ⊥). ⊎_elim (λ (z : get_or words x 0 ≡ 0). inl z) (λ (q : Contains queue x). inr (kept x q)) (m.waits x (before x l o))) (cases_eq x n);
  nodes = λ x l. ⊎_elim (λ (q : Contains queue x). m.nodes x q) (λ (e : x ≡ n). subst (λ (y : ℕ). y < length words) (sym e) h) (only x l);
}
  where
    before : (x : ℕ) → x < n + 1 → (x ≡ n → ⊥) → x < n
    before x l o = ⊎_elim (λ (e : x ≡ n). absurd (o e)) (λ (y : x < n). y) (eq-or-lt_of_le (omega arith))

pub marked_all : (words : List ℕ) (n : ℕ) (queue : List ℕ) → Marked words n queue → length words ≤ n → (x : ℕ) → (get_or words x 0 ≡ 0) ⊎ Contains queue x
marked_all words n queue m h x = ⊎_elim (λ (l : x < n). m.waits x l) (λ (g : n ≤ x). inl (get_or_past words x 0 (omega arith))) (cases_lt x n)

pub first_node : (graph : List (List ℕ)) (start words queue rest : List ℕ) (x : ℕ) → Spreading graph start words queue → queue ≡ x ∷ rest → x < length words
first_node graph start words queue rest x s e =
    let h : x < length start = s.nodes x (subst (λ (q : List ℕ). Contains q x) (sym e) (0, omega arith, refl)) in
    let l : length words ≡ length start = s.same_length in
    omega arith
