-- What the answer for a list of placed rules says.
use Rattle.std.proofs.Common.{◌≡◌, ◌⊎◌, inl, inr, ℕ, ◌≤◌, List, [], ◌∷◌, refl, sym, ap, subst, ◌∙◌, arith}
use Rattle.cl_levels.specs.Placed.{Places, PlacedRule, Holds, IsFirst, AllPlacedHold, FirstPlacedFails}

-- Rules that all hold have no first that fails.
pub not_both : (rs : List PlacedRule) (number line : ℕ) → AllPlacedHold rs → FirstPlacedFails rs number line → ⊥
not_both [] number line h f = f
not_both (r ∷ rs) number line h (inl f) = h.0 f.1.0 line f.1.1.0
not_both (r ∷ rs) number line h (inr f) = not_both rs number line h.1 f.1

-- a place has one line
abbrev pub HasOneLine : Places → Type 0
HasOneLine Fails = (position line other : ℕ) → Fails position line → Fails position other → line ≡ other

abbrev pub AllHaveOneLine : List PlacedRule → Type 0
AllHaveOneLine [] = Unit {0}
AllHaveOneLine (r ∷ rs) = HasOneLine r.Fails × AllHaveOneLine rs

pub one_line : (Fails : Places) (k l : ℕ) → HasOneLine Fails → IsFirst Fails k → IsFirst Fails l → k ≡ l
one_line Fails k l one f g =
    let a : f.0 ≤ g.0 = f.1.1 g.0 l g.1.0 in
    let b : g.0 ≤ f.0 = g.1.1 f.0 k f.1.0 in
    let e : g.0 ≡ f.0 = omega arith in
    one f.0 k l f.1.0 (subst (λ (p : ℕ). Fails p l) e g.1.0)

-- One rule is the first to fail, at one line.
pub one_first : (rs : List PlacedRule) (m k n l : ℕ) → AllHaveOneLine rs → FirstPlacedFails rs m k → FirstPlacedFails rs n l → (m ≡ n) × (k ≡ l)
one_first [] m k n l one f g = absurd f
one_first (r ∷ rs) m k n l one (inl f) (inl g) = (f.0 ∙ sym g.0, one_line r.Fails k l one.0 f.1 g.1)
one_first (r ∷ rs) m k n l one (inl f) (inr g) = absurd (g.0 f.1.0 k f.1.1.0)
one_first (r ∷ rs) m k n l one (inr f) (inl g) = absurd (f.0 g.1.0 l g.1.1.0)
one_first (r ∷ rs) m k n l one (inr f) (inr g) = one_first rs m k n l one.1 f.1 g.1
