-- The numbers of a kind, by what is left of them in its bits.
use Rattle.std.proofs.Common.{◌≡◌, ℕ, ◌+◌, ◌-◌, ◌^◌, ◌%◌, ◌<◌, arith, ℤ, pos, negsuc, ◌-ℤ◌, ◌<ℤ◌, ◌≤ℤ◌, refl, sym, subst, ap, ◌∙◌, Bool, true, false, ◌&&◌, if◌then◌else◌, lit<, int_lt, int_le, unsigned_abs, List, ◌++◌}
use Rattle.std.specs.Int.{int_rem_euclid}
use Rattle.std.proofs.lemmas.Int.{ints}
use Rattle.std.proofs.lemmas.Bool.{false≢true}
use Rattle.std.proofs.Math.Nat.{mod-lt, mod-eq_of_lt}
use Rattle.byteorder.specs.Endian.{big_bytes, big_number}
use Rattle.byteorder.specs.Numbers.{big_number-reads_back}
use Rattle.cl_tree.specs.declared.kinds.IntKind.{IntKind}
use Rattle.cl_tree.specs.declared.kinds.IntKind.TheVariants.{I8, U8, I16, U16, I32, U32, Long, ULong, LLong, ULLong}
use Rattle.cl_tree.specs.Arithmetic.{width, is_signed, least, beyond, fits, residue, value}
use Rattle.cl_mean.specs.Shape.{size_of}

-- a kind has the numbers from -under to below over, and takes so many bytes
record Ends (kind : IntKind) : Type 0 where
  pub under : ℕ
  pub over : ℕ
  pub least_is : least kind ≡ pos 0 -ℤ pos under
  pub beyond_is : beyond kind ≡ pos over
  pub span : under + over ≡ 2 ^ width kind
  pub bytes : 2 ^ width kind ≡ 256 ^ size_of kind
  pub some : 0 < over

ends : (kind : IntKind) → Ends kind
unfolding least beyond width is_signed
ends I8 = record { under = 2 ^ 7; over = 2 ^ 7; least_is = refl; beyond_is = refl; span = refl; bytes = refl; some = lit< tt }
ends U8 = record { under = 0; over = 2 ^ 8; least_is = refl; beyond_is = refl; span = refl; bytes = refl; some = lit< tt }
ends I16 = record { under = 2 ^ 15; over = 2 ^ 15; least_is = refl; beyond_is = refl; span = refl; bytes = refl; some = lit< tt }
ends U16 = record { under = 0; over = 2 ^ 16; least_is = refl; beyond_is = refl; span = refl; bytes = refl; some = lit< tt }
ends I32 = record { under = 2 ^ 31; over = 2 ^ 31; least_is = refl; beyond_is = refl; span = refl; bytes = refl; some = lit< tt }
ends U32 = record { under = 0; over = 2 ^ 32; least_is = refl; beyond_is = refl; span = refl; bytes = refl; some = lit< tt }
ends Long = record { under = 2 ^ 63; over = 2 ^ 63; least_is = refl; beyond_is = refl; span = refl; bytes = refl; some = lit< tt }
ends ULong = record { under = 0; over = 2 ^ 64; least_is = refl; beyond_is = refl; span = refl; bytes = refl; some = lit< tt }
ends LLong = record { under = 2 ^ 63; over = 2 ^ 63; least_is = refl; beyond_is = refl; span = refl; bytes = refl; some = lit< tt }
ends ULLong = record { under = 0; over = 2 ^ 64; least_is = refl; beyond_is = refl; span = refl; bytes = refl; some = lit< tt }

pub both : (x y : Bool) → (x && y) ≡ true → (x ≡ true) × (y ≡ true)
both true y e = (refl, e)
both false y e = absurd (false≢true e)

pub both_back : (x y : Bool) → x ≡ true → y ≡ true → (x && y) ≡ true
both_back true y p q = q
both_back false y p q = p

fits_out : (kind : IntKind) (n : ℤ) → fits kind n ≡ true → (least kind ≤ℤ n) × (n <ℤ beyond kind)
unfolding fits
fits_out kind n e =
    let b : (int_le (least kind) n ≡ true) × (int_lt n (beyond kind) ≡ true) = both (int_le (least kind) n) (int_lt n (beyond kind)) e in
    (omega (arith, ints), omega (arith, ints))

fits_in : (kind : IntKind) (n : ℤ) → least kind ≤ℤ n → n <ℤ beyond kind → fits kind n ≡ true
unfolding fits
fits_in kind n l h =
    let p : true ≡ int_le (least kind) n = omega (arith, ints) in
    let q : true ≡ int_lt n (beyond kind) = omega (arith, ints) in
    both_back (int_le (least kind) n) (int_lt n (beyond kind)) (sym p) (sym q)

euclid_lt : (n : ℤ) (m : ℕ) → 0 < m → unsigned_abs (int_rem_euclid n (pos m)) < m
euclid_lt (pos a) m h = mod-lt a h
euclid_lt (negsuc a) m h = omega arith

residue_lt : (kind : IntKind) (n : ℤ) → residue kind n < 2 ^ width kind
unfolding residue
residue_lt kind n = let k : Ends kind = ends kind in euclid_lt n (2 ^ width kind) (omega arith)

-- what is left has the bytes of the kind
pub residue_bytes : (kind : IntKind) (n : ℤ) → residue kind n < 256 ^ size_of kind
residue_bytes kind n = subst (λ (z : ℕ). residue kind n < z) (ends kind).bytes (residue_lt kind n)

-- the value in a kind is a number of it
pub value_fits : (kind : IntKind) (n : ℤ) → fits kind (value kind n) ≡ true
unfolding value
value_fits kind n = by (int_lt (pos (residue kind n)) (beyond kind)) refl
  where
    by : (t : Bool) → int_lt (pos (residue kind n)) (beyond kind) ≡ t → fits kind (if t then pos (residue kind n) else (pos (residue kind n) -ℤ pos (2 ^ width kind))) ≡ true
    by true e =
        let k : Ends kind = ends kind in
        fits_in kind (pos (residue kind n)) (omega (arith, ints)) (omega (arith, ints))
    by false e =
        let k : Ends kind = ends kind in
        let s : residue kind n < 2 ^ width kind = residue_lt kind n in
        fits_in kind (pos (residue kind n) -ℤ pos (2 ^ width kind)) (omega (arith, ints)) (omega (arith, ints))

-- a number of the kind is its own value
own_value : (kind : IntKind) (n : ℤ) → fits kind n ≡ true → value kind n ≡ n
unfolding value residue
own_value kind (pos a) e = by (int_lt (pos (a % 2 ^ width kind)) (beyond kind)) refl
  where
    by : (t : Bool) → int_lt (pos (a % 2 ^ width kind)) (beyond kind) ≡ t → (if t then pos (a % 2 ^ width kind) else (pos (a % 2 ^ width kind) -ℤ pos (2 ^ width kind))) ≡ pos a
    by true q =
        let k : Ends kind = ends kind in
        let r : (least kind ≤ℤ pos a) × (pos a <ℤ beyond kind) = fits_out kind (pos a) e in
        let own : a % 2 ^ width kind ≡ a = mod-eq_of_lt (omega (arith, ints)) in
        ap (λ (z : ℕ). pos z) own
    by false q =
        let k : Ends kind = ends kind in
        let r : (least kind ≤ℤ pos a) × (pos a <ℤ beyond kind) = fits_out kind (pos a) e in
        let own : a % 2 ^ width kind ≡ a = mod-eq_of_lt (omega (arith, ints)) in
        absurd (omega (arith, ints, own))
own_value kind (negsuc a) e = by (int_lt (pos (residue kind (negsuc a))) (beyond kind)) refl
  where
    by : (t : Bool) → int_lt (pos (residue kind (negsuc a))) (beyond kind) ≡ t → (if t then pos (residue kind (negsuc a)) else (pos (residue kind (negsuc a)) -ℤ pos (2 ^ width kind))) ≡ negsuc a
    by true q =
        let k : Ends kind = ends kind in
        let r : (least kind ≤ℤ negsuc a) × (negsuc a <ℤ beyond kind) = fits_out kind (negsuc a) e in
        let own : a % 2 ^ width kind ≡ a = mod-eq_of_lt (omega (arith, ints)) in
        absurd (omega (arith, ints, own))
    by false q =
        let k : Ends kind = ends kind in
        let r : (least kind ≤ℤ negsuc a) × (negsuc a <ℤ beyond kind) = fits_out kind (negsuc a) e in
        let own : a % 2 ^ width kind ≡ a = mod-eq_of_lt (omega (arith, ints)) in
        omega (arith, ints, own)

-- what is left of a number has itself left
residue_again : (kind : IntKind) (n : ℤ) → residue kind (pos (residue kind n)) ≡ residue kind n
unfolding residue
residue_again kind n = mod-eq_of_lt (residue_lt kind n)

by_residue : (kind : IntKind) (n m : ℤ) → residue kind n ≡ residue kind m → value kind n ≡ value kind m
unfolding value
by_residue kind n m e = ap (λ (z : ℕ). if int_lt (pos z) (beyond kind) then pos z else (pos z -ℤ pos (2 ^ width kind))) e

-- a modulus less changes nothing
residue_below : (r m : ℕ) → r < m → unsigned_abs (int_rem_euclid (pos r -ℤ pos m) (pos m)) ≡ r
residue_below r m h =
    let e : pos r -ℤ pos m ≡ negsuc (m - r - 1) = omega (arith, ints) in
    let own : (m - r - 1) % m ≡ m - r - 1 = mod-eq_of_lt (omega arith) in
    rw e (omega (arith, own))

-- a number and its value have the same left
residue_value : (kind : IntKind) (n : ℤ) → residue kind (value kind n) ≡ residue kind n
unfolding value residue
residue_value kind n = by (int_lt (pos (residue kind n)) (beyond kind))
  where
    by : (t : Bool) → residue kind (if t then pos (residue kind n) else (pos (residue kind n) -ℤ pos (2 ^ width kind))) ≡ residue kind n
    by true = residue_again kind n
    by false = residue_below (residue kind n) (2 ^ width kind) (residue_lt kind n)

-- a number of a kind is read back from its bytes
pub number_back : (kind : IntKind) (n : ℤ) (rest : List ℕ) → fits kind n ≡ true → value kind (pos (big_number (size_of kind) (big_bytes (size_of kind) (residue kind n) ++ rest))) ≡ n
number_back kind n rest e =
    ap (λ (z : ℕ). value kind (pos z)) (big_number-reads_back (size_of kind) (residue kind n) rest (residue_bytes kind n))
    ∙ by_residue kind (pos (residue kind n)) n (residue_again kind n) ∙ own_value kind n e

-- and what is left of the number that some bytes are read as is what they are
pub residue_back : (kind : IntKind) (x : ℕ) → x < 256 ^ size_of kind → residue kind (value kind (pos x)) ≡ x
unfolding residue
residue_back kind x h = residue_value kind (pos x) ∙ mod-eq_of_lt (subst (λ (z : ℕ). x < z) (sym (ends kind).bytes) h)
