-- The numbers of a kind lie within an i128, and so do its residues and the results on its numbers.
use Rattle.std.proofs.Common.{◌≡◌, ℕ, zero, suc, ◌+◌, ◌-◌, ◌*◌, ◌/◌, ◌%◌, ◌^◌, ◌<◌, ◌≤◌, Ok, Err, Bool, true, false, ◌&&◌, if◌then◌else◌, ℤ, pos, negsuc, ◌+ℤ◌, ◌-ℤ◌, ◌*ℤ◌, ◌<ℤ◌, ◌≤ℤ◌, refl, sym, ap, ◌∙◌, arith, T, lit<, lit≤, FitsSigned, Fits, to_z, of_z, nat_abs, w32, w64, unsigned_abs, int_lt, int_le, int_div, int_rem}
use Rattle.std.specs.Int.{int_div_euclid, int_rem_euclid}
use Rattle.std.proofs.lemmas.Int.{ints, to_z-of_z, to_z_pos, fits_signed_from_abs, fits_signed_mul, quot-rem}
use Rattle.std.proofs.lemmas.Bool.{false≢true}
use Rattle.std.proofs.Math.Nat.{mod-lt, mod-le, div-le_self, div-add-mod', mul-le-mul}
use Rattle.std.proofs.Math.Pow.{pow_mono}
use borrow.Author.Differences.{up, down}
use lib.Signed.{non_neg}
use mir.Syntax.{w128}
use Rattle.cl_tree.specs.declared.kinds.IntKind.{IntKind}
use Rattle.cl_tree.specs.declared.kinds.IntKind.TheVariants.{I8, U8, I16, U16, I32, U32, Long, ULong, LLong, ULLong}
use Rattle.cl_tree.specs.declared.kinds.TrapCause.TheVariants.{Overflow, Divide}
use Rattle.cl_tree.specs.Arithmetic.{width, is_signed, least, beyond, fits, residue, value, settled, truth, is_zero, can_shift, shifted_left, quotient, remainder}

-- a kind has the numbers from -under to below over
pub record Ends (kind : IntKind) : Type 0 where
  pub under : ℕ
  pub over : ℕ
  pub least_is : least kind ≡ pos 0 -ℤ pos under
  pub beyond_is : beyond kind ≡ pos over
  pub span : under + over ≡ 2 ^ width kind
  pub some : 0 < over
  pub span_small : 2 ^ width kind ≤ 2 ^ 64
  pub bits_few : width kind ≤ 64
  pub under_small : under ≤ 2 ^ 63
  pub over_small : is_signed kind ≡ true → over ≤ 2 ^ 63
  pub under_none : is_signed kind ≡ false → under ≡ 0

pub ends : (kind : IntKind) → Ends kind
unfolding least beyond width is_signed
ends I8 = record { under = 2 ^ 7; over = 2 ^ 7; least_is = refl; beyond_is = refl; span = refl; some = lit< tt; span_small = lit≤ tt; bits_few = lit≤ tt; under_small = lit≤ tt; over_small = λ _. lit≤ tt; under_none = λ e. absurd (false≢true (sym e)) }
ends U8 = record { under = 0; over = 2 ^ 8; least_is = refl; beyond_is = refl; span = refl; some = lit< tt; span_small = lit≤ tt; bits_few = lit≤ tt; under_small = lit≤ tt; over_small = λ e. absurd (false≢true e); under_none = λ _. refl }
ends I16 = record { under = 2 ^ 15; over = 2 ^ 15; least_is = refl; beyond_is = refl; span = refl; some = lit< tt; span_small = lit≤ tt; bits_few = lit≤ tt; under_small = lit≤ tt; over_small = λ _. lit≤ tt; under_none = λ e. absurd (false≢true (sym e)) }
ends U16 = record { under = 0; over = 2 ^ 16; least_is = refl; beyond_is = refl; span = refl; some = lit< tt; span_small = lit≤ tt; bits_few = lit≤ tt; under_small = lit≤ tt; over_small = λ e. absurd (false≢true e); under_none = λ _. refl }
ends I32 = record { under = 2 ^ 31; over = 2 ^ 31; least_is = refl; beyond_is = refl; span = refl; some = lit< tt; span_small = lit≤ tt; bits_few = lit≤ tt; under_small = lit≤ tt; over_small = λ _. lit≤ tt; under_none = λ e. absurd (false≢true (sym e)) }
ends U32 = record { under = 0; over = 2 ^ 32; least_is = refl; beyond_is = refl; span = refl; some = lit< tt; span_small = lit≤ tt; bits_few = lit≤ tt; under_small = lit≤ tt; over_small = λ e. absurd (false≢true e); under_none = λ _. refl }
ends Long = record { under = 2 ^ 63; over = 2 ^ 63; least_is = refl; beyond_is = refl; span = refl; some = lit< tt; span_small = lit≤ tt; bits_few = lit≤ tt; under_small = lit≤ tt; over_small = λ _. lit≤ tt; under_none = λ e. absurd (false≢true (sym e)) }
ends ULong = record { under = 0; over = 2 ^ 64; least_is = refl; beyond_is = refl; span = refl; some = lit< tt; span_small = lit≤ tt; bits_few = lit≤ tt; under_small = lit≤ tt; over_small = λ e. absurd (false≢true e); under_none = λ _. refl }
ends LLong = record { under = 2 ^ 63; over = 2 ^ 63; least_is = refl; beyond_is = refl; span = refl; some = lit< tt; span_small = lit≤ tt; bits_few = lit≤ tt; under_small = lit≤ tt; over_small = λ _. lit≤ tt; under_none = λ e. absurd (false≢true (sym e)) }
ends ULLong = record { under = 0; over = 2 ^ 64; least_is = refl; beyond_is = refl; span = refl; some = lit< tt; span_small = lit≤ tt; bits_few = lit≤ tt; under_small = lit≤ tt; over_small = λ e. absurd (false≢true e); under_none = λ _. refl }

both : (x y : Bool) → (x && y) ≡ true → (x ≡ true) × (y ≡ true)
both true y e = (refl, e)
both false y e = absurd (false≢true e)

both_back : (x y : Bool) → x ≡ true → y ≡ true → (x && y) ≡ true
both_back true y p q = q
both_back false y p q = p

pub fits_out : (kind : IntKind) (n : ℤ) → fits kind n ≡ true → (least kind ≤ℤ n) × (n <ℤ beyond kind)
unfolding fits
fits_out kind n e =
    let b : (int_le (least kind) n ≡ true) × (int_lt n (beyond kind) ≡ true) = both (int_le (least kind) n) (int_lt n (beyond kind)) e in
    (omega (arith, ints), omega (arith, ints))

pub fits_in : (kind : IntKind) (n : ℤ) → least kind ≤ℤ n → n <ℤ beyond kind → fits kind n ≡ true
unfolding fits
fits_in kind n l h =
    let p : true ≡ int_le (least kind) n = omega (arith, ints) in
    let q : true ≡ int_lt n (beyond kind) = omega (arith, ints) in
    both_back (int_le (least kind) n) (int_lt n (beyond kind)) (sym p) (sym q)

-- a number of a kind has at most 64 bits
pub fits_size : (kind : IntKind) (n : ℤ) → fits kind n ≡ true → unsigned_abs n < 2 ^ 64
fits_size kind n e =
    let r : (least kind ≤ℤ n) × (n <ℤ beyond kind) = fits_out kind n e in
    let k : Ends kind = ends kind in
    omega (arith, ints)

euclid_lt : (n : ℤ) (m : ℕ) → 0 < m → unsigned_abs (int_rem_euclid n (pos m)) < m
euclid_lt (pos a) m h = mod-lt a h
euclid_lt (negsuc a) m h = omega arith

pub residue_lt : (kind : IntKind) (n : ℤ) → residue kind n < 2 ^ width kind
unfolding residue
residue_lt kind n = let k : Ends kind = ends kind in euclid_lt n (2 ^ width kind) (omega arith)

pub residue_size : (kind : IntKind) (n : ℤ) → residue kind n < 2 ^ 64
residue_size kind n = let k : Ends kind = ends kind in omega (arith, residue_lt kind n)

-- the bits of a kind, cast
pub cast_size : (z : ℤ) (n : ℕ) → z ≡ pos n → n < 2 ^ 64 → T (non_neg (to_z w128 (of_z w128 z))) × Fits w64 (nat_abs (to_z w128 (of_z w128 z)))
cast_size z n e h = rw (e, to_z_pos w128 n (omega arith)) (tt, record { fits = h })

-- ---- the value in a kind

pub value_fits : (kind : IntKind) (n : ℤ) → fits kind (value kind n) ≡ true
unfolding value
value_fits kind n = by (int_lt (pos (residue kind n)) (beyond kind)) refl
  where
    by : (t : Bool) → int_lt (pos (residue kind n)) (beyond kind) ≡ t → fits kind (if t then pos (residue kind n) else (pos (residue kind n) -ℤ pos (2 ^ width kind))) ≡ true
    by true e =
        let k : Ends kind = ends kind in
        fits_in kind (pos (residue kind n)) (omega (arith, ints)) (omega (arith, ints))
    by false e =
        let k : Ends kind = ends kind in
        let s : residue kind n < 2 ^ width kind = residue_lt kind n in
        fits_in kind (pos (residue kind n) -ℤ pos (2 ^ width kind)) (omega (arith, ints)) (omega (arith, ints))

euclid_split : (n : ℤ) (m : ℕ) → 0 < m → n ≡ pos (unsigned_abs (int_rem_euclid n (pos m))) +ℤ int_div_euclid n (pos m) *ℤ pos m
euclid_split (pos a) m h = omega (arith, ints, div-add-mod' a m)
euclid_split (negsuc a) m h = omega (arith, ints, div-add-mod' a m, mod-lt a h)

residue_split : (kind : IntKind) (n : ℤ) → n ≡ pos (residue kind n) +ℤ int_div_euclid n (pos (2 ^ width kind)) *ℤ pos (2 ^ width kind)
unfolding residue
residue_split kind n = let k : Ends kind = ends kind in euclid_split n (2 ^ width kind) (omega arith)

one_more : (n r q : ℤ) (m : ℕ) → n ≡ r +ℤ q *ℤ pos m → n ≡ (r -ℤ pos m) +ℤ (q +ℤ pos 1) *ℤ pos m
one_more n r q m e =
    let next : up (q +ℤ pos 1) + down q ≡ up q + 1 + down (q +ℤ pos 1) = omega (arith, ints) in
    omega (arith, ints, ap (λ (x : ℕ). x * m) next)

-- a number differs from its value by a multiple of two to the width
pub value_differs : (kind : IntKind) (n : ℤ) → (k : ℤ) × (n ≡ value kind n +ℤ k *ℤ pos (2 ^ width kind))
unfolding value
value_differs kind n = by (int_lt (pos (residue kind n)) (beyond kind))
  where
    by : (t : Bool) → (k : ℤ) × (n ≡ (if t then pos (residue kind n) else (pos (residue kind n) -ℤ pos (2 ^ width kind))) +ℤ k *ℤ pos (2 ^ width kind))
    by true = (int_div_euclid n (pos (2 ^ width kind)), residue_split kind n)
    by false = (int_div_euclid n (pos (2 ^ width kind)) +ℤ pos 1, one_more n (pos (residue kind n)) (int_div_euclid n (pos (2 ^ width kind))) (2 ^ width kind) (residue_split kind n))

same_if_near : (a b d : ℤ) (m : ℕ) → a ≡ b +ℤ d *ℤ pos m → a <ℤ (b +ℤ pos m) → b <ℤ (a +ℤ pos m) → a ≡ b
same_if_near a b (pos zero) m e h k = omega (arith, ints)
same_if_near a b (pos (suc t)) m e h k = absurd (omega (arith, ints))
same_if_near a b (negsuc t) m e h k = absurd (omega (arith, ints))

apart : (n a b j k : ℤ) (m : ℕ) → n ≡ a +ℤ j *ℤ pos m → n ≡ b +ℤ k *ℤ pos m → a ≡ b +ℤ (k -ℤ j) *ℤ pos m
apart n a b j k m e f =
    let less : up (k -ℤ j) + down k + up j ≡ up k + down j + down (k -ℤ j) = omega (arith, ints) in
    omega (arith, ints, ap (λ (x : ℕ). x * m) less)

-- and it is the one number of the kind that does
pub value_only : (kind : IntKind) (n m k : ℤ) → fits kind m ≡ true → n ≡ m +ℤ k *ℤ pos (2 ^ width kind) → value kind n ≡ m
value_only kind n m k h e =
    let d : (j : ℤ) × (n ≡ value kind n +ℤ j *ℤ pos (2 ^ width kind)) = value_differs kind n in
    let one : (least kind ≤ℤ m) × (m <ℤ beyond kind) = fits_out kind m h in
    let other : (least kind ≤ℤ value kind n) × (value kind n <ℤ beyond kind) = fits_out kind (value kind n) (value_fits kind n) in
    let ends' : Ends kind = ends kind in
    same_if_near (value kind n) m (k -ℤ d.0) (2 ^ width kind) (apart n (value kind n) m d.0 k (2 ^ width kind) d.1 e) (omega (arith, ints)) (omega (arith, ints))

zero_or_one_fits : (kind : IntKind) (holds : Bool) → fits kind (truth holds) ≡ true
unfolding fits truth least beyond width is_signed
zero_or_one_fits I8 true = refl
zero_or_one_fits I8 false = refl
zero_or_one_fits U8 true = refl
zero_or_one_fits U8 false = refl
zero_or_one_fits I16 true = refl
zero_or_one_fits I16 false = refl
zero_or_one_fits U16 true = refl
zero_or_one_fits U16 false = refl
zero_or_one_fits I32 true = refl
zero_or_one_fits I32 false = refl
zero_or_one_fits U32 true = refl
zero_or_one_fits U32 false = refl
zero_or_one_fits Long true = refl
zero_or_one_fits Long false = refl
zero_or_one_fits ULong true = refl
zero_or_one_fits ULong false = refl
zero_or_one_fits LLong true = refl
zero_or_one_fits LLong false = refl
zero_or_one_fits ULLong true = refl
zero_or_one_fits ULLong false = refl

pub truth_fits : (kind : IntKind) (z : ℤ) (holds : Bool) → z ≡ truth holds → fits kind (to_z w128 (of_z w128 z)) ≡ true
unfolding truth
truth_fits kind z true e = rw e (zero_or_one_fits kind true)
truth_fits kind z false e = rw e (zero_or_one_fits kind false)

-- ---- sums

pub sum_fits : (a b : ℤ) → unsigned_abs a < 2 ^ 64 → unsigned_abs b < 2 ^ 64 → FitsSigned w128 (a +ℤ b)
sum_fits a b h k = omega (arith, ints)

pub difference_fits : (a b : ℤ) → unsigned_abs a < 2 ^ 64 → unsigned_abs b < 2 ^ 64 → FitsSigned w128 (a -ℤ b)
difference_fits a b h k = omega (arith, ints)

-- ---- shifts

pub count_few : (kind : IntKind) (b : ℤ) → can_shift kind b ≡ true → nat_abs b < 64
unfolding can_shift
count_few kind b e =
    let r : (int_le (pos 0) b ≡ true) × (int_lt b (pos (width kind)) ≡ true) = both (int_le (pos 0) b) (int_lt b (pos (width kind))) e in
    let k : Ends kind = ends kind in
    omega (arith, ints)

pub count_cast : (kind : IntKind) (b : ℤ) → can_shift kind b ≡ true → T (non_neg b) × Fits w32 (nat_abs b)
unfolding can_shift
count_cast kind b e =
    let r : (int_le (pos 0) b ≡ true) × (int_lt b (pos (width kind)) ≡ true) = both (int_le (pos 0) b) (int_lt b (pos (width kind))) e in
    (omega (arith, ints), record { fits = omega (arith, count_few kind b e) })

-- a power of two below a shift's count
pub power_size : (c : ℕ) → c < 64 → 2 ^ c ≤ 2 ^ 63
power_size c h = let le : c ≤ 63 = omega arith in pow_mono le

pub shifted_size : (a p : ℤ) (c : ℕ) → p ≡ pos (2 ^ c) → c < 64 → unsigned_abs a < 2 ^ 64 → FitsSigned w128 (a *ℤ p)
shifted_size a p c e h k =
    fits_signed_mul w128 a p (2 ^ 64 - 1) (2 ^ 63) (omega arith) (rw e (power_size c h)) (lit< tt)

pub shifted_left_is : (kind : IntKind) (a b : ℤ) → can_shift kind b ≡ true → int_lt a (pos 0) ≡ false → shifted_left kind a b ≡ settled kind (a *ℤ pos (2 ^ unsigned_abs b))
unfolding shifted_left
shifted_left_is kind a b e f =
    let g : true ≡ int_le (pos 0) a = omega (arith, ints) in
    rw (e, sym g) refl

pub floor_fits : (kind : IntKind) (a : ℤ) (m : ℕ) → fits kind a ≡ true → fits kind (int_div_euclid a (pos m)) ≡ true
floor_fits kind (pos a) m e =
    let r : (least kind ≤ℤ pos a) × (pos a <ℤ beyond kind) = fits_out kind (pos a) e in
    let k : Ends kind = ends kind in
    fits_in kind (pos (a / m)) (omega (arith, ints)) (omega (arith, ints, div-le_self a m))
floor_fits kind (negsuc a) m e =
    let r : (least kind ≤ℤ negsuc a) × (negsuc a <ℤ beyond kind) = fits_out kind (negsuc a) e in
    let k : Ends kind = ends kind in
    fits_in kind (negsuc (a / m)) (omega (arith, ints, div-le_self a m)) (omega (arith, ints))

-- ---- quotients

nonzero_bits : (b : ℤ) → FitsSigned w128 b → is_zero b ≡ false → 0 < of_z w128 b
unfolding is_zero
nonzero_bits (pos zero) f e = absurd (false≢true (sym e))
nonzero_bits (pos (suc n)) f e = omega arith
nonzero_bits (negsuc n) f e = omega (arith, f.sfits)

quotient_size : (a b : ℤ) → unsigned_abs (int_div a b) ≤ unsigned_abs a
quotient_size (pos a) (pos b) = div-le_self a b
quotient_size (pos a) (negsuc b) = omega (arith, ints, div-le_self a (suc b))
quotient_size (negsuc a) (pos b) = omega (arith, ints, div-le_self (suc a) b)
quotient_size (negsuc a) (negsuc b) = div-le_self (suc a) (suc b)

pub quotient_fits : (a b : ℤ) → unsigned_abs a < 2 ^ 64 → FitsSigned w128 (int_div a b)
quotient_fits a b h = fits_signed_from_abs w128 (int_div a b) (omega (arith, quotient_size a b))

pub can_divide : (a b : ℤ) → FitsSigned w128 a → FitsSigned w128 b → unsigned_abs a < 2 ^ 64 → is_zero b ≡ false → (0 < of_z w128 b) × FitsSigned w128 (int_div (to_z w128 (of_z w128 a)) (to_z w128 (of_z w128 b)))
can_divide a b f g h e = (nonzero_bits b g e, simp to_z-of_z (quotient_fits a b h))

pub quotient_is : (kind : IntKind) (a b : ℤ) → is_zero b ≡ false → quotient kind a b ≡ settled kind (int_div a b)
unfolding quotient
quotient_is kind a b e = rw e refl

pub remainder_is : (kind : IntKind) (a b : ℤ) → is_zero b ≡ false → fits kind (int_div a b) ≡ true → remainder kind a b ≡ Ok (int_rem a b)
unfolding remainder
remainder_is kind a b e f = rw (e, f) refl

pub remainder_fits : (kind : IntKind) (a b : ℤ) → fits kind a ≡ true → fits kind (int_rem a b) ≡ true
remainder_fits kind (pos a) b e =
    let r : (least kind ≤ℤ pos a) × (pos a <ℤ beyond kind) = fits_out kind (pos a) e in
    let k : Ends kind = ends kind in
    let le : a % unsigned_abs b ≤ a = mod-le a (unsigned_abs b) in
    fits_in kind (pos (a % unsigned_abs b)) (omega (arith, ints)) (omega (arith, ints))
remainder_fits kind (negsuc a) b e =
    let r : (least kind ≤ℤ negsuc a) × (negsuc a <ℤ beyond kind) = fits_out kind (negsuc a) e in
    let k : Ends kind = ends kind in
    let le : suc a % unsigned_abs b ≤ suc a = mod-le (suc a) (unsigned_abs b) in
    fits_in kind (int_rem (negsuc a) b) (omega (arith, ints)) (omega (arith, ints))

-- `(a / b) * b + a % b` is a, where both have a result
pub quotient_and_remainder : (kind : IntKind) (a b q r : ℤ) → quotient kind a b ≡ Ok q → remainder kind a b ≡ Ok r → q *ℤ b +ℤ r ≡ a
unfolding quotient remainder settled
quotient_and_remainder kind a b q r = by (is_zero b) (fits kind (int_div a b)) (is_signed kind) refl
  where
    split : int_div a b ≡ q → int_rem a b ≡ r → q *ℤ b +ℤ r ≡ a
    split e f = rw (sym e, sym f) (quot-rem a b)

    by : (z f s : Bool) → fits kind (int_div a b) ≡ f → (if z then Err Divide else (if s then (if f then Ok (int_div a b) else Err Overflow) else Ok (value kind (int_div a b)))) ≡ Ok q → (if z then Err Divide else (if f then Ok (int_rem a b) else Err Overflow)) ≡ Ok r → q *ℤ b +ℤ r ≡ a
    by true f s w e h = cc
    by false false s w e h = cc
    by false true true w e h = split (cc) (cc)
    by false true false w e h =
        let same : value kind (int_div a b) ≡ int_div a b = value_only kind (int_div a b) (int_div a b) (pos 0) w (omega (arith, ints)) in
        split (cc) (cc)

-- ---- products

pub signed_size : (kind : IntKind) (n : ℤ) → is_signed kind ≡ true → fits kind n ≡ true → unsigned_abs n ≤ 2 ^ 63
signed_size kind n s e =
    let r : (least kind ≤ℤ n) × (n <ℤ beyond kind) = fits_out kind n e in
    let k : Ends kind = ends kind in
    let small : k.over ≤ 2 ^ 63 = k.over_small s in
    omega (arith, ints)

pub product_fits : (kind : IntKind) (a b : ℤ) → is_signed kind ≡ true → fits kind a ≡ true → fits kind b ≡ true → FitsSigned w128 (a *ℤ b)
product_fits kind a b s e f = fits_signed_mul w128 a b (2 ^ 63) (2 ^ 63) (signed_size kind a s e) (signed_size kind b s f) (lit< tt)

pub unsigned_is : (kind : IntKind) (n : ℤ) → is_signed kind ≡ false → fits kind n ≡ true → n ≡ pos (unsigned_abs n)
unsigned_is kind n s e =
    let r : (least kind ≤ℤ n) × (n <ℤ beyond kind) = fits_out kind n e in
    let k : Ends kind = ends kind in
    let none : k.under ≡ 0 = k.under_none s in
    omega (arith, ints)

pub settled_unsigned : (kind : IntKind) (n : ℤ) → is_signed kind ≡ false → settled kind n ≡ Ok (value kind n)
unfolding settled
settled_unsigned kind n s = rw s refl

-- the value of a product of two unsigned numbers is what two to the width leaves of it
unsigned_value : (kind : IntKind) (a b : ℤ) → is_signed kind ≡ false → fits kind a ≡ true → fits kind b ≡ true → value kind (a *ℤ b) ≡ pos (unsigned_abs a * unsigned_abs b % 2 ^ width kind)
unfolding value residue
unsigned_value kind (negsuc x) b s e f = absurd (omega (arith, ints, unsigned_is kind (negsuc x) s e))
unsigned_value kind (pos x) (negsuc y) s e f = absurd (omega (arith, ints, unsigned_is kind (negsuc y) s f))
unsigned_value kind (pos x) (pos y) s e f =
    let k : Ends kind = ends kind in
    let none : k.under ≡ 0 = k.under_none s in
    let within : true ≡ int_lt (pos (x * y % 2 ^ width kind)) (beyond kind) = omega (arith, ints) in
    rw (sym within) refl

pub unsigned_cast : (kind : IntKind) (n : ℤ) → FitsSigned w128 n → is_signed kind ≡ false → fits kind n ≡ true → T (non_neg (to_z w128 (of_z w128 n))) × Fits w128 (nat_abs (to_z w128 (of_z w128 n)))
unsigned_cast kind n f s e =
    let is : n ≡ pos (unsigned_abs n) = unsigned_is kind n s e in
    let small : unsigned_abs n < 2 ^ 64 = fits_size kind n e in
    simp to_z-of_z (omega (arith, ints), record { fits = omega arith })

pub unsigned_product_fits : (kind : IntKind) (a b : ℤ) → FitsSigned w128 a → FitsSigned w128 b → fits kind a ≡ true → fits kind b ≡ true → Fits w128 (nat_abs (to_z w128 (of_z w128 a)) * nat_abs (to_z w128 (of_z w128 b)))
unsigned_product_fits kind a b g h e f =
    let small : unsigned_abs a ≤ 2 ^ 64 - 1 = omega (arith, fits_size kind a e) in
    let small' : unsigned_abs b ≤ 2 ^ 64 - 1 = omega (arith, fits_size kind b f) in
    simp to_z-of_z record { fits = omega (arith, mul-le-mul small small') }

pub unsigned_product_is : (kind : IntKind) (a b m : ℤ) → FitsSigned w128 a → FitsSigned w128 b → FitsSigned w128 m → is_signed kind ≡ false → fits kind a ≡ true → fits kind b ≡ true → m ≡ pos (2 ^ width kind) → to_z w128 (nat_abs (to_z w128 (of_z w128 a)) * nat_abs (to_z w128 (of_z w128 b)) % nat_abs (to_z w128 (of_z w128 m))) ≡ value kind (a *ℤ b)
unsigned_product_is kind a b m f g h s e e' is =
    let k : Ends kind = ends kind in
    let rest : unsigned_abs a * unsigned_abs b % 2 ^ width kind < 2 ^ width kind = mod-lt (unsigned_abs a * unsigned_abs b) (omega arith) in
    simp to_z-of_z (rw is (to_z_pos w128 (unsigned_abs a * unsigned_abs b % 2 ^ width kind) (omega arith) ∙ sym (unsigned_value kind a b s e e')))
