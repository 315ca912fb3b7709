-- What is passed on, by one target and by one more.
use Rattle.std.proofs.Common.{◌≡◌, ℕ, ◌<◌, ◌≤◌, ◌+◌, ◌-◌, ◌^◌, ◌++◌, ◌⊎◌, inl, inr, ⊎_elim, List, [], ◌∷◌, length, get_or, set, take, refl, sym, subst, ◌∙◌, arith, max}
use Rattle.std.proofs.lemmas.List.{get_or-set_same, get_or-set_other, length-set, take_more}
use Rattle.std.proofs.lemmas.List.Elements.{Contains-append_left, Contains-append_right, Contains-append_cases, Contains-push, Contains-push_cases}
use Rattle.std.proofs.lemmas.List.Sums.{sum_by-set}
use Rattle.std.proofs.lemmas.Nat.{le_or_l}
use Rattle.std.proofs.Math.Nat.{eq-or-lt_of_le}
use Rattle.std.proofs.lemmas.Bool.{cases_eq}
use Rattle.std.specs.List.{sum_by}
use Rattle.std.proofs.lemmas.Nat.Bits.{bit_at_or, bit_at-lt}
use Rattle.std.specs.Int.{bit_at}
use Rattle.std.specs.Int.RustNames.{bit_or}
use Rattle.std.specs.List.{Contains}
use Rattle.cl_reach.specs.Reach.{Has}
use Rattle.cl_reach.specs.Spread.{slack, PassesOn}

-- nothing is passed on to no target
pub passed_none : (word : ℕ) (words queue : List ℕ) → PassesOn [] word words words queue queue
passed_none word words queue = record {
  same_length = refl;
  only = λ k x h. inl h;
  kept = λ k x h. h;
  given = λ k x b h. absurd (omega (arith, h.1));
  waits = λ x h. h;
  changed = λ x. inl refl;
  within = λ x h. inl h;
  falls = omega arith;
}

-- two lists of targets, one after the other
pub passed_both : (ts us : List ℕ) (word : ℕ) (a b c q r s : List ℕ) → PassesOn ts word a b q r → PassesOn us word b c r s → PassesOn (ts ++ us) word a c q s
passed_both ts us word a b c q r s f g = record {
  same_length = g.same_length ∙ f.same_length;
  only = λ k x h. ⊎_elim (λ (h' : Has b k x). ⊎_elim (λ (h'' : Has a k x). inl h'') (λ (p : (bit_at word k ≡ 1) × Contains ts x). inr (p.0, Contains-append_left ts us x p.1)) (f.only k x h')) (λ (p : (bit_at word k ≡ 1) × Contains us x). inr (p.0, Contains-append_right ts us x p.1)) (g.only k x h);
  kept = λ k x h. g.kept k x (f.kept k x h);
  given = λ k x w h. ⊎_elim (λ (l : Contains ts x). g.kept k x (f.given k x w l)) (λ (l : Contains us x). g.given k x w l) (Contains-append_cases ts us x h);
  waits = λ x h. g.waits x (f.waits x h);
  changed = λ x. ⊎_elim (λ (e : get_or c x 0 ≡ get_or b x 0). ⊎_elim (λ (d : get_or b x 0 ≡ get_or a x 0). inl (e ∙ d)) (λ (h : Contains r x). inr (g.waits x h)) (f.changed x)) (λ (h : Contains s x). inr h) (g.changed x);
  within = λ x h. ⊎_elim (λ (h' : Contains r x). ⊎_elim (λ (h'' : Contains q x). inl h'') (λ (l : Contains ts x). inr (Contains-append_left ts us x l)) (f.within x h')) (λ (l : Contains us x). inr (Contains-append_right ts us x l)) (g.within x h);
  falls = let p : slack b + length r ≤ slack a + length q = f.falls in let p' : slack c + length s ≤ slack b + length r = g.falls in omega arith;
}

pub passed_more : (targets : List ℕ) (i : ℕ) (word : ℕ) (a b c q r s : List ℕ) → i < length targets → PassesOn (take i targets) word a b q r → PassesOn (get_or targets i 0 ∷ []) word b c r s → PassesOn (take (i + 1) targets) word a c q s
passed_more targets i word a b c q r s h f g =
    subst (λ (ts : List ℕ). PassesOn ts word a c q s) (sym (take_more targets i 0 h)) (passed_both (take i targets) (get_or targets i 0 ∷ []) word a b c q r s f g)

contains_one : (t x : ℕ) → Contains (t ∷ []) x → t ≡ x
contains_one t x h = ⊎_elim (λ (n : Contains [] x). absurd (omega (arith, n.1))) (λ (e : t ≡ x). e) (Contains-push_cases [] t x h)

-- a bit of two words joined
joined_only : (a b k : ℕ) → bit_at (bit_or a b) k ≡ 1 → (bit_at a k ≡ 1) ⊎ (bit_at b k ≡ 1)
joined_only a b k h =
    let e : max (bit_at a k) (bit_at b k) ≡ 1 = sym (bit_at_or a b k) ∙ h in
    let la : bit_at a k < 2 = bit_at-lt a k in
    let lb : bit_at b k < 2 = bit_at-lt b k in
    grind arith

joined_left : (a b k : ℕ) → bit_at a k ≡ 1 → bit_at (bit_or a b) k ≡ 1
joined_left a b k h = let l : bit_at b k < 2 = bit_at-lt b k in rw bit_at_or (omega arith)

joined_right : (a b k : ℕ) → bit_at b k ≡ 1 → bit_at (bit_or a b) k ≡ 1
joined_right a b k h = let l : bit_at a k < 2 = bit_at-lt a k in rw bit_at_or (omega arith)

-- a target that has all bits already
pub gave_nothing : (t word : ℕ) (words queue : List ℕ) → bit_or (get_or words t 0) word ≡ get_or words t 0 → PassesOn (t ∷ []) word words words queue queue
gave_nothing t word words queue e = record {
  same_length = refl;
  only = λ k x h. inl h;
  kept = λ k x h. h;
  given = λ k x w h. subst (λ (y : ℕ). Has words k y) (contains_one t x h) (subst (λ (v : ℕ). bit_at v k ≡ 1) e (joined_right (get_or words t 0) word k w));
  waits = λ x h. h;
  changed = λ x. inl refl;
  within = λ x h. inl h;
  falls = omega arith;
}

-- one word of a list that grows
abbrev grown : List ℕ → ℕ → ℕ → List ℕ
grown words t word = set words t (bit_or (get_or words t 0) word)

less_slack : (words : List ℕ) (t word : ℕ) → t < length words → get_or words t 0 < 2 ^ 64 → (bit_or (get_or words t 0) word ≡ get_or words t 0 → ⊥) → slack (grown words t word) + 1 ≤ slack words
unfolding slack
less_slack words t word h small other =
    let e : sum_by (λ w. 2 ^ 64 - w) (grown words t word) + (2 ^ 64 - get_or words t 0) ≡ sum_by (λ w. 2 ^ 64 - w) words + (2 ^ 64 - bit_or (get_or words t 0) word) = sum_by-set (λ w. 2 ^ 64 - w) words t (bit_or (get_or words t 0) word) 0 h in
    let l : get_or words t 0 ≤ bit_or (get_or words t 0) word = le_or_l (get_or words t 0) word in
    let m : get_or words t 0 < bit_or (get_or words t 0) word = ⊎_elim (λ (same : get_or words t 0 ≡ bit_or (get_or words t 0) word). absurd (other (sym same))) (λ (p : get_or words t 0 < bit_or (get_or words t 0) word). p) (eq-or-lt_of_le l) in
    fewer (sum_by (λ w. 2 ^ 64 - w) (grown words t word)) (sum_by (λ w. 2 ^ 64 - w) words) (get_or words t 0) (bit_or (get_or words t 0) word) (2 ^ 64) small m e
  where
    fewer : (s r w v top : ℕ) → w < top → w < v → s + (top - w) ≡ r + (top - v) → s + 1 ≤ r
    fewer s r w v top a b e = omega arith

at_target : (words : List ℕ) (t word x : ℕ) → t < length words → ((x ≡ t) × (get_or (grown words t word) x 0 ≡ bit_or (get_or words x 0) word)) ⊎ (get_or (grown words t word) x 0 ≡ get_or words x 0)
at_target words t word x h = ⊎_elim
    (λ (e : x ≡ t). inl (e, subst (λ (y : ℕ). get_or (grown words t word) y 0 ≡ bit_or (get_or words y 0) word) (sym e) (get_or-set_same words t (bit_or (get_or words t 0) word) 0 h)))
    (λ (n : x ≡ t → ⊥). inr (get_or-set_other words t x (bit_or (get_or words t 0) word) 0 n))
    (cases_eq x t)

-- a target that grows, and waits for its turn
pub gave : (t word : ℕ) (words queue queue' : List ℕ) → t < length words → get_or words t 0 < 2 ^ 64 → (bit_or (get_or words t 0) word ≡ get_or words t 0 → ⊥) → Contains queue' t → ((x : ℕ) → Contains queue x → Contains queue' x) → ((x : ℕ) → Contains queue' x → Contains queue x ⊎ (x ≡ t)) → length queue' ≤ length queue + 1 → PassesOn (t ∷ []) word words (grown words t word) queue queue'
gave t word words queue queue' h small other waits kept only room = record {
  same_length = length-set words t (bit_or (get_or words t 0) word);
  only = λ k x b. ⊎_elim
      (λ (p : (x ≡ t) × (get_or (grown words t word) x 0 ≡ bit_or (get_or words x 0) word)). ⊎_elim (λ (l : bit_at (get_or words x 0) k ≡ 1). inl l) (λ (r : bit_at word k ≡ 1). inr (r, subst (λ (y : ℕ). Contains (t ∷ []) y) (sym p.0) (Contains-push [] t))) (joined_only (get_or words x 0) word k (subst (λ (v : ℕ). bit_at v k ≡ 1) p.1 b)))
      (λ (e : get_or (grown words t word) x 0 ≡ get_or words x 0). inl (subst (λ (v : ℕ). bit_at v k ≡ 1) e b))
      (at_target words t word x h);
  kept = λ k x b. ⊎_elim
      (λ (p : (x ≡ t) × (get_or (grown words t word) x 0 ≡ bit_or (get_or words x 0) word)). subst (λ (v : ℕ). bit_at v k ≡ 1) (sym p.1) (joined_left (get_or words x 0) word k b))
      (λ (e : get_or (grown words t word) x 0 ≡ get_or words x 0). subst (λ (v : ℕ). bit_at v k ≡ 1) (sym e) b)
      (at_target words t word x h);
  given = λ k x b at. subst (λ (y : ℕ). Has (grown words t word) k y) (contains_one t x at) (subst (λ (v : ℕ). bit_at v k ≡ 1) (sym (get_or-set_same words t (bit_or (get_or words t 0) word) 0 h)) (joined_right (get_or words t 0) word k b));
  waits = kept;
  changed = λ x. ⊎_elim
      (λ (p : (x ≡ t) × (get_or (grown words t word) x 0 ≡ bit_or (get_or words x 0) word)). inr (subst (λ (y : ℕ). Contains queue' y) (sym p.0) waits))
      (λ (e : get_or (grown words t word) x 0 ≡ get_or words x 0). inl e)
      (at_target words t word x h);
  within = λ x at. ⊎_elim (λ (l : Contains queue x). inl l) (λ (e : x ≡ t). inr (subst (λ (y : ℕ). Contains (t ∷ []) y) (sym e) (Contains-push [] t))) (only x at);
  falls = let s : slack (grown words t word) + 1 ≤ slack words = less_slack words t word h small other in omega arith;
}
