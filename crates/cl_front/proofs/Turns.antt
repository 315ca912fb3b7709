-- Passes in turn: no two refusals, and none of what is accepted.
use Rattle.std.proofs.Common.{◌≡◌, ◌⊎◌, inl, inr, ℕ, subst, sym}
use Rattle.cl_front.specs.Verdict.{Failing, InTurn}

-- it fails in one way
abbrev pub Once : Failing → Type 0
Once Fails = (rule line r l : ℕ) → Fails rule line → Fails r l → (rule ≡ r) × (line ≡ l)

-- it doesn't fail
abbrev pub Never : Failing → Type 0
Never Fails = (rule line : ℕ) → Fails rule line → ⊥

module _ {V : Type 0} (Fails : Failing) (Is : V → Type 0) (Behind : V → Failing)
    (one : (x y : V) → Is x → Is y → x ≡ y) (not_both : (x : V) → Is x → Never Fails) where
  pub once : Once Fails → ((v : V) → Is v → Once (Behind v)) → Once (InTurn Fails Is Behind)
  once f b rule line r l (inl h) (inl k) = f rule line r l h k
  once f b rule line r l (inl h) (inr k) = absurd (not_both k.0 k.1.0 rule line h)
  once f b rule line r l (inr h) (inl k) = absurd (not_both h.0 h.1.0 r l k)
  once f b rule line r l (inr h) (inr k) =
      b k.0 k.1.0 rule line r l (subst (λ (v : V). Behind v rule line) (one h.0 k.0 h.1.0 k.1.0) h.1.1) k.1.1

  pub never : (v : V) → Is v → Never (Behind v) → Never (InTurn Fails Is Behind)
  never v is n rule line (inl h) = not_both v is rule line h
  never v is n rule line (inr h) = n rule line (subst (λ (w : V). Behind w rule line) (one h.0 v h.1.0 is) h.1.1)
