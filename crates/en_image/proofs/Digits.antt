-- Hexadecimal digits, the last first.
use Rattle.std.proofs.Common.{◌≡◌, ℕ, zero, suc, ◌-◌, ◌/◌, ◌%◌, ◌<◌, ◌+◌, ◌≤◌, List, [], ◌∷◌, length, drop, set, refl, ap, ◌∙◌, arith}
use Rattle.std.specs.Prelude.{Bool, true, false}
use Rattle.std.proofs.Math.Dec.{eqb}
use Rattle.std.proofs.Math.Bool.{cond}
use Rattle.std.proofs.lemmas.Bool.{eq-eqb, ne_eqb}
use Rattle.std.proofs.lemmas.List.{drop-set}
use Rattle.std.specs.Fmt.{digits, digits_onto, digit_glyph}

pub all_digits : (n : ℕ) → digits_onto 64 16 false n [] ≡ digits 16 false n
unfolding digits
all_digits n = refl

module _ (n : ℕ) (acc : List ℕ) where
  digits_by : (k : ℕ) (t : Bool) → eqb (n / 16) 0 ≡ t → digits_onto (suc k) 16 false n acc ≡ cond t (digit_glyph false (n % 16) ∷ acc) (digits_onto k 16 false (n / 16) (digit_glyph false (n % 16) ∷ acc))
  digits_by k t e = ap (λ (b : Bool). cond b (digit_glyph false (n % 16) ∷ acc) (digits_onto k 16 false (n / 16) (digit_glyph false (n % 16) ∷ acc))) e

  pub first_digit : (i : ℕ) → 0 < i → n / 16 ≡ 0 → digits_onto i 16 false n acc ≡ digit_glyph false (n % 16) ∷ acc
  first_digit zero h e = absurd (omega arith)
  first_digit (suc k) h e = digits_by k true (eq-eqb _ 0 e)

  pub more_digits : (i : ℕ) → 0 < i → (n / 16 ≡ 0 → ⊥) → digits_onto i 16 false n acc ≡ digits_onto (i - 1) 16 false (n / 16) (digit_glyph false (n % 16) ∷ acc)
  more_digits zero h e = absurd (omega arith)
  more_digits (suc k) h e = digits_by k false (ne_eqb _ 0 e) ∙ ap (λ (j : ℕ). digits_onto j 16 false (n / 16) (digit_glyph false (n % 16) ∷ acc)) {x = k} {y = suc k - 1} (omega arith)

-- a digit, written in front of the others
pub digit_put : (b : List ℕ) (at g n : ℕ) → 0 < at → at ≤ length b → g ≡ digit_glyph false (n % 16) → drop (at - 1) (set b (at - 1) g) ≡ digit_glyph false (n % 16) ∷ drop at b
digit_put b at g n h le e =
    let k : at - 1 + 1 ≡ at = omega arith in
    drop-set b (at - 1) g (omega arith) ∙ ap (λ i. g ∷ drop i b) k ∙ ap (λ d. d ∷ drop at b) e
