-- Places in lists.
use Rattle.std.proofs.Common.{◌≡◌, ℕ, suc, ◌+◌, Option, None, Some, option_map, refl, ap, arith}

-- one place further on
pub place_behind : (i : ℕ) (o : Option ℕ) → option_map (λ n. i + n) (option_map (λ n. suc n) o) ≡ option_map (λ n. (i + 1) + n) o
place_behind i None = refl
place_behind i (Some n) = ap (λ (k : ℕ). Some k) (omega arith)

pub place_here : (o : Option ℕ) → option_map (λ n. 0 + n) o ≡ o
place_here None = refl
place_here (Some n) = ap (λ (k : ℕ). Some k) (omega arith)
