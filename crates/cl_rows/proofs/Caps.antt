-- Sums and products of numbers that are capped.
use Rattle.std.proofs.Common.{◌≡◌, ◌≤◌, ◌<◌, ◌⊎◌, inl, inr, ℕ, zero, suc, ◌+◌, ◌*◌, ◌^◌, refl, sym, ◌∙◌, arith}
use Rattle.std.proofs.lemmas.Bool.{cases_lt}
use Rattle.std.proofs.Math.Nat.{le-mul_of_pos_right, mul-le-mul}
use Rattle.cl_rows.specs.Capped.{most, capped}

pub capped_sum : (a b : ℕ) → capped (capped a + capped b) ≡ capped (a + b)
capped_sum a b = omega arith

pub capped_more : (t s r : ℕ) → capped (capped (t + capped s) + r) ≡ capped (t + (s + r))
capped_more t s r = omega arith

pub capped_three : (a b c : ℕ) → capped (capped a + capped (capped b + capped c)) ≡ capped (a + (b + c))
capped_three a b c = omega arith

pub capped_self : (n : ℕ) → n ≤ most → capped n ≡ n
capped_self n h = omega arith

pub capped_most : (n : ℕ) → capped n ≤ most
capped_most n = omega arith

pub capped_small : (n : ℕ) → capped n < most → capped n ≡ n
capped_small n h = omega arith

big : (n : ℕ) → most ≤ n → capped n ≡ most
big n h = omega arith

grows : (n m : ℕ) → n ≤ n * suc m
grows n m = let h : zero < suc m = omega arith in le-mul_of_pos_right {m = suc m} n h

product_case : (n m : ℕ) → (n < most) ⊎ (most ≤ n) → (suc m < most) ⊎ (most ≤ suc m)
    → capped (capped n * capped (suc m)) ≡ capped (n * suc m)
product_case n m (inl a) (inl b) =
    let e : capped n ≡ n = omega arith in let f : capped (suc m) ≡ suc m = omega arith in rw (e, f) refl
product_case n m (inr a) (inl b) =
    let e : capped n ≡ most = big n a in let f : capped (suc m) ≡ suc m = omega arith in
    let g : most ≤ most * suc m = grows most m in let h : n ≤ n * suc m = grows n m in
    rw (e, f) (big (most * suc m) g ∙ sym (big (n * suc m) (omega arith)))
product_case zero m (inl a) (inr b) = grind arith
product_case (suc n) m (inl a) (inr b) =
    let e : capped (suc n) ≡ suc n = omega arith in let f : capped (suc m) ≡ most = big (suc m) b in
    let g : most ≤ suc n * most = omega arith in
    let one : 1 ≤ suc n = omega arith in let same : suc m ≤ suc m = omega arith in
    let k : 1 * suc m ≤ suc n * suc m = mul-le-mul {n₁ = 1} {m₁ = suc m} {n₂ = suc n} {m₂ = suc m} one same in
    let h : suc m ≤ suc n * suc m = omega arith in
    rw (e, f) (big (suc n * most) g ∙ sym (big (suc n * suc m) (omega arith)))
product_case n m (inr a) (inr b) =
    let e : capped n ≡ most = big n a in let f : capped (suc m) ≡ most = big (suc m) b in
    let h : n ≤ n * suc m = grows n m in
    rw (e, f) (big (most * most) (omega arith) ∙ sym (big (n * suc m) (omega arith)))

pub capped_product : (n m : ℕ) → capped (capped n * capped m) ≡ capped (n * m)
capped_product n zero = grind arith
capped_product n (suc m) = product_case n m (cases_lt n most) (cases_lt (suc m) most)

pub product_small : (a b : ℕ) → a ≤ most → b ≤ most → a * b < 2 ^ 64
product_small a b h k =
    let e : a * b ≤ most * most = mul-le-mul {n₁ = a} {m₁ = b} {n₂ = most} {m₂ = most} h k in omega arith

pub ruleset products = (capped_product, product_small)

pub ruleset caps = (capped_sum, capped_more, capped_three, capped_self, capped_most)

pub narrow_is : (size n : ℕ) → n ≤ 4096 → size ≡ capped n → size ≡ n
narrow_is size n small e = omega (arith, small, e)
