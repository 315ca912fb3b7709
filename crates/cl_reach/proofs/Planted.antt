-- How seeds come to lie in the words of a batch.
use Rattle.std.proofs.Common.{◌≡◌, ℕ, ◌<◌, ◌+◌, ◌*◌, ◌/◌, ◌%◌, ◌^◌, ◌⊎◌, inl, inr, ⊎_elim, List, [], ◌∷◌, ◌++◌, length, get_or, set, take, sym, ap, subst, ◌∙◌, arith, bit_or, w64, ◌≢◌}
use mir.Val.{bits}
use Rattle.std.proofs.lemmas.List.{get_or-set_same, get_or-set_other, length-set, take_more}
use Rattle.std.proofs.lemmas.List.Elements.{Contains-append_left, Contains-push, Contains-push_cases}
use Rattle.std.proofs.lemmas.Bool.{cases_eq}
use Rattle.std.proofs.lemmas.Nat.Bits.{bit_at_set_same, bit_at_set_other, bit_at-zero}
use Rattle.std.specs.Int.{bit_at}
use Rattle.std.specs.List.{Contains}
use Rattle.cl_reach.specs.declared.propagate.Seed.{Seed}
use Rattle.cl_reach.specs.Reach.{Has, seed}
use Rattle.cl_reach.specs.Seeds.{Plants, Seeded}

seed_is : (s : Seed) (x m : ℕ) → s.node ≡ x → s.label ≡ m → s ≡ seed x m
seed_is s x m e f = ap (λ (n : ℕ). seed n s.label) e ∙ ap (λ (n : ℕ). seed x n) f

-- a mask sets one bit, whatever the word
pub record Sets (mask bit : ℕ) : Type 0 where
  pub same : (n : ℕ) → bit_at (bit_or n mask) bit ≡ 1
  pub other : (n i : ℕ) → i ≢ bit → bit_at (bit_or n mask) i ≡ bit_at n i

abbrev planted_words : List ℕ → ℕ → ℕ → List ℕ
planted_words words x mask = set words x (bit_or (get_or words x 0) mask)

here : (words : List ℕ) (at mask x : ℕ) → at < length words → x ≡ at → get_or (planted_words words at mask) x 0 ≡ bit_or (get_or words x 0) mask
here words at mask x h e = subst (λ (y : ℕ). get_or (planted_words words at mask) y 0 ≡ bit_or (get_or words y 0) mask) (sym e) (get_or-set_same words at (bit_or (get_or words at 0) mask) 0 h)

there : (words : List ℕ) (at mask x : ℕ) → x ≢ at → get_or (planted_words words at mask) x 0 ≡ get_or words x 0
there words at mask x o = get_or-set_other words at x (bit_or (get_or words at 0) mask) 0 o

-- the bit at one node is set, and no other
pub has_planted : (words : List ℕ) (at mask bit k x : ℕ) → at < length words → Sets mask bit → Has (planted_words words at mask) k x → Has words k x ⊎ ((x ≡ at) × (k ≡ bit))
has_planted words at mask bit k x h m b = ⊎_elim
    (λ (e : x ≡ at). ⊎_elim
    (λ (f : k ≡ bit). inr (e, f))
    (λ (o : k ≡ bit → ⊥). inl (subst (λ (v : ℕ). v ≡ 1) (m.other (get_or words x 0) k o) (subst (λ (v : ℕ). bit_at v k ≡ 1) (here words at mask x h e) b)))
    (cases_eq k bit))
    (λ (o : x ≡ at → ⊥). inl (subst (λ (v : ℕ). bit_at v k ≡ 1) (there words at mask x o) b))
    (cases_eq x at)

pub keeps_planted : (words : List ℕ) (at mask bit k x : ℕ) → at < length words → Sets mask bit → Has words k x → Has (planted_words words at mask) k x
keeps_planted words at mask bit k x h m b = ⊎_elim
    (λ (e : x ≡ at). subst (λ (v : ℕ). bit_at v k ≡ 1) (sym (here words at mask x h e)) (⊎_elim
    (λ (f : k ≡ bit). subst (λ (j : ℕ). bit_at (bit_or (get_or words x 0) mask) j ≡ 1) (sym f) (m.same (get_or words x 0)))
    (λ (o : k ≡ bit → ⊥). subst (λ (v : ℕ). v ≡ 1) (sym (m.other (get_or words x 0) k o)) b)
    (cases_eq k bit)))
    (λ (o : x ≡ at → ⊥). subst (λ (v : ℕ). bit_at v k ≡ 1) (sym (there words at mask x o)) b)
    (cases_eq x at)

pub gets_planted : (words : List ℕ) (at mask bit k x : ℕ) → at < length words → Sets mask bit → x ≡ at → k ≡ bit → Has (planted_words words at mask) k x
gets_planted words at mask bit k x h m e f = subst (λ (v : ℕ). bit_at v k ≡ 1) (sym (here words at mask x h e)) (subst (λ (j : ℕ). bit_at (bit_or (get_or words x 0) mask) j ≡ 1) (sym f) (m.same (get_or words x 0)))

number : (n batch k : ℕ) → n / 64 ≡ batch → k ≡ n % 64 → n ≡ batch * 64 + k
number n batch k e f = omega arith

digit : (n batch k : ℕ) → k < 64 → n ≡ batch * 64 + k → k ≡ n % 64
digit n batch k l e = omega arith

pub planted : (s : Seed) (batch mask : ℕ) (words : List ℕ) → s.node < length words → s.label / 64 ≡ batch → Sets mask (s.label % 64) → Plants s batch words (planted_words words s.node mask)
planted s batch mask words h in' m = record {
  same_length = length-set words s.node (bit_or (get_or words s.node 0) mask);
  only = λ k x b. ⊎_elim (λ (l : Has words k x). inl l) (λ (r : (x ≡ s.node) × (k ≡ s.label % 64)). inr (seed_is s x (batch * 64 + k) (sym r.0) (number s.label batch k in' r.1))) (has_planted words s.node mask (s.label % 64) k x h m b);
  kept = λ k x b. keeps_planted words s.node mask (s.label % 64) k x h m b;
  given = λ k x l e. gets_planted words s.node mask (s.label % 64) k x h m (sym (ap (λ (r : Seed). r.node) e)) (digit s.label batch k l (ap (λ (r : Seed). r.label) e));
}

pub sets_bit : (k : ℕ) → k < 64 → Sets (1 * 2 ^ k % 2 ^ bits w64) k
sets_bit k h = record { same = λ n. bit_at_set_same w64 n k h; other = λ n i o. bit_at_set_other w64 n k h i o }

pub seeded_none : (batch : ℕ) (words : List ℕ) → ((x : ℕ) → get_or words x 0 ≡ 0) → Seeded [] batch words
seeded_none batch words zero_at = record {
  sound = λ k x b. absurd (nothing k x b);
  complete = λ k x l h. absurd (omega (arith, h.1));
}
  where
    nothing : (k x : ℕ) → Has words k x → ⊥
    nothing k x b = let z : bit_at 0 k ≡ 0 = bit_at-zero k in let o : bit_at 0 k ≡ 1 = subst (λ (v : ℕ). bit_at v k ≡ 1) (zero_at x) b in omega arith

pub seeded_more : (seeds : List Seed) (i batch : ℕ) (d : Seed) (words words' : List ℕ) → i < length seeds → Seeded (take i seeds) batch words → Plants (get_or seeds i d) batch words words' → Seeded (take (i + 1) seeds) batch words'
seeded_more seeds i batch d words words' h f p = subst (λ (ss : List Seed). Seeded ss batch words') (sym (take_more seeds i d h)) (record {
  sound = λ k x b. ⊎_elim (λ (l : Has words k x). Contains-append_left (take i seeds) (get_or seeds i d ∷ []) (seed x (batch * 64 + k)) (f.sound k x l)) (λ (e : get_or seeds i d ≡ seed x (batch * 64 + k)). subst (λ (s : Seed). Contains (take i seeds ++ s ∷ []) (seed x (batch * 64 + k))) (sym e) (Contains-push (take i seeds) (seed x (batch * 64 + k)))) (p.only k x b);
  complete = λ k x l c. ⊎_elim (λ (in' : Contains (take i seeds) (seed x (batch * 64 + k))). p.kept k x (f.complete k x l in')) (λ (e : get_or seeds i d ≡ seed x (batch * 64 + k)). p.given k x l e) (Contains-push_cases (take i seeds) (get_or seeds i d) (seed x (batch * 64 + k)) c);
})
