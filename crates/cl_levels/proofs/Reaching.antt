-- What is reached lies in each set that has the starts and that no edge leaves.
use Rattle.std.proofs.Common.{◌≡◌, ℕ, zero, suc, ◌⊎◌, inl, inr, ⊎_elim, refl}
use Rattle.cl_reach.specs.Reach.{Reaches, ReachesWithin}

pub closed : {A : Type 0} (Edge : A → A → Type 0) (Start C : A → Type 0) → ((x : A) → Start x → C x) → ((y x : A) → Edge y x → C y → C x)
    → (x : A) → Reaches Edge Start x → C x
closed {A} Edge Start C starts steps x h = go h.0 x h.1
  where
    go : (n : ℕ) (x : A) → ReachesWithin Edge Start n x → C x
    go zero x h = starts x h
    go (suc n) x h = ⊎_elim (λ (l : ReachesWithin Edge Start n x). go n x l) (λ (r : (y : A) × (Edge y x × ReachesWithin Edge Start n y)). steps r.0 x r.1.0 (go n r.0 r.1.1)) h

pub start : {A : Type 0} (Edge : A → A → Type 0) (Start : A → Type 0) (x : A) → Start x → Reaches Edge Start x
start Edge Start x h = (0, h)

pub step : {A : Type 0} (Edge : A → A → Type 0) (Start : A → Type 0) (y x : A) → Edge y x → Reaches Edge Start y → Reaches Edge Start x
step Edge Start y x e h = (suc h.0, inr (y, (e, h.1)))

-- a chain of edges, with one more in front
pub in_front : {A : Type 0} (Edge : A → A → Type 0) (z y x : A) → Edge z y → Reaches Edge (λ a. a ≡ y) x → Reaches Edge (λ a. a ≡ z) x
in_front Edge z y x e h =
    closed Edge (λ a. a ≡ y) (λ a. Reaches Edge (λ b. b ≡ z) a)
    (λ a is. step Edge (λ b. b ≡ z) z a (rw is e) (start Edge (λ b. b ≡ z) z refl))
    (λ b a f r. step Edge (λ c. c ≡ z) b a f r) x h
