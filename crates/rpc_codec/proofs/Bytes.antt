-- Bytes that are read as a number are the bytes of that number.
use Rattle.std.proofs.Common.{◌≡◌, ℕ, zero, suc, ◌+◌, ◌*◌, ◌/◌, ◌%◌, ◌^◌, ◌<◌, ◌≤◌, List, [], ◌∷◌, length, take, slice_index, refl, sym, ap, ◌∙◌, arith}
use Rattle.std.proofs.Math.Nat.{div-one, mod-eq_of_lt, mul-add-div_right, mul-add-mod_self_right, mul_assoc, one-le-pow, pow-succ'}
use Rattle.std.proofs.lemmas.Nat.{div-mul-add}
use Rattle.std.specs.Int.{byte_at, bytes_high_first}
use Rattle.byteorder.specs.Endian.{big_from, big_number, big_bytes}
use Rattle.byteorder.specs.Numbers.{big_from-cons, big_from-lt}

abbrev pub AreBytes : List ℕ → Type 0
AreBytes xs = (k : ℕ) → slice_index xs k < 256

-- a byte by its place
byte_at-pow : (k x : ℕ) → byte_at k x ≡ x / 256 ^ k % 256
byte_at-pow zero x = ap (λ (y : ℕ). y % 256) (sym (div-one x))
byte_at-pow (suc k) x = refl

pow_pos : (n : ℕ) → zero < 256 ^ n
pow_pos n = let h = one-le-pow n 256 (omega arith) in omega arith

-- what stands above n bytes leaves them as they are
bytes-above : (n top x : ℕ) → bytes_high_first n (top * 256 ^ n + x) ≡ bytes_high_first n x
bytes-above zero top x = refl
bytes-above (suc n) top x =
    let shift : top * 256 ^ suc n ≡ top * 256 * 256 ^ n = ap (λ (p : ℕ). top * p) (pow-succ' 256 n) ∙ sym (mul_assoc top 256 (256 ^ n)) in
    let here : byte_at n (top * 256 * 256 ^ n + x) ≡ byte_at n x =
    byte_at-pow n (top * 256 * 256 ^ n + x) ∙ ap (λ (y : ℕ). y % 256) (mul-add-div_right (pow_pos n) (top * 256) x) ∙ mul-add-mod_self_right top 256 (x / 256 ^ n) ∙ sym (byte_at-pow n x) in
    rw (shift, here, bytes-above n (top * 256) x) refl

-- the first n bytes are those of the number that they are read as
pub big_bytes-big_number : (n : ℕ) (xs : List ℕ) → n ≤ length xs → AreBytes xs → big_bytes n (big_number n xs) ≡ take n xs
big_bytes-big_number zero xs long small = refl
big_bytes-big_number (suc n) [] long small = absurd (omega arith)
big_bytes-big_number (suc n) (x ∷ xs) long small =
    let rest : AreBytes xs = λ k. small (suc k) in
    let moved : big_from 1 n (x ∷ xs) ≡ big_from 0 n xs = big_from-cons 0 n x xs in
    let below : big_from 0 n xs < 256 ^ n = big_from-lt 0 n xs rest in
    let first : x < 256 = small 0 in
    let here : byte_at n (x * 256 ^ n + big_from 0 n xs) ≡ x =
    byte_at-pow n (x * 256 ^ n + big_from 0 n xs) ∙ ap (λ (y : ℕ). y % 256) (div-mul-add x (256 ^ n) (big_from 0 n xs) below) ∙ mod-eq_of_lt first in
    rw (moved, here, bytes-above n x (big_from 0 n xs), big_bytes-big_number n xs (omega arith) rest) refl
