-- The arithmetic of the integer kinds: C11 6.2.5, 6.3.1 and 6.5, at the widths of the profile. Values are whole numbers.
use Rattle.std.specs.Prelude.{ℕ, ◌-◌, ◌^◌, Bool, true, false, ◌&&◌, ◌||◌, not, nat_le, nat_lt, ℤ, pos, ◌+ℤ◌, ◌-ℤ◌, ◌*ℤ◌, Result, Ok, Err, if◌then◌else◌, bit_and, bit_or, bit_xor}
use Rattle.std.specs.Int.{int_div_euclid, int_rem_euclid}
use Rattle.std.specs.Ordering.{int_eq}
use Rattle.std.specs.Int.RustNames.{int_lt, int_le, int_div, int_rem, unsigned_abs}
use Rattle.cl_tree.specs.declared.kinds.IntKind.{IntKind}
use Rattle.cl_tree.specs.declared.kinds.IntKind.TheVariants.{I8, U8, I16, U16, I32, U32, Long, ULong, LLong, ULLong}
use Rattle.cl_tree.specs.declared.kinds.BinOp.{BinOp}
use Rattle.cl_tree.specs.declared.kinds.BinOp.TheVariants.{Or, And, BitOr, Xor, BitAnd, Equal, Unequal, Less, Greater, AtMost, AtLeast, Left, Right, Add, Sub, Mul, Div, Rem}
use Rattle.cl_tree.specs.declared.kinds.UnOp.{UnOp}
use Rattle.cl_tree.specs.declared.kinds.UnOp.TheVariants.{Minus, Plus, Flip, Not, Star, Amp}
use Rattle.cl_tree.specs.declared.kinds.TrapCause.{TrapCause}
use Rattle.cl_tree.specs.declared.kinds.TrapCause.TheVariants.{Overflow, Divide, Shift}

-- how many bits a kind has
unfoldable pub width : IntKind → ℕ
width I8 = 8
width U8 = 8
width I16 = 16
width U16 = 16
width I32 = 32
width U32 = 32
width Long = 64
width ULong = 64
width LLong = 64
width ULLong = 64

unfoldable pub is_signed : IntKind → Bool
is_signed I8 = true
is_signed U8 = false
is_signed I16 = true
is_signed U16 = false
is_signed I32 = true
is_signed U32 = false
is_signed Long = true
is_signed ULong = false
is_signed LLong = true
is_signed ULLong = false

-- the least number of a kind, and the number behind its greatest
unfoldable pub least : IntKind → ℤ
least kind = if is_signed kind then pos 0 -ℤ pos (2 ^ (width kind - 1)) else pos 0

unfoldable pub beyond : IntKind → ℤ
beyond kind = if is_signed kind then pos (2 ^ (width kind - 1)) else pos (2 ^ width kind)

-- n is a number of the kind
unfoldable pub fits : IntKind → ℤ → Bool
fits kind n = int_le (least kind) n && int_lt n (beyond kind)

-- what is left of n in the bits of the kind
unfoldable pub residue : IntKind → ℤ → ℕ
residue kind n = unsigned_abs (int_rem_euclid n (pos (2 ^ width kind)))

-- the value of n in the kind: the number of the kind that differs from n by a multiple of 2 to the width
unfoldable pub value : IntKind → ℤ → ℤ
value kind n = if int_lt (pos (residue kind n)) (beyond kind) then pos (residue kind n) else pos (residue kind n) -ℤ pos (2 ^ width kind)

-- a whole-number result in the kind: an unsigned kind takes its value, and of a signed one a result out of range is a trap
unfoldable pub settled : IntKind → ℤ → Result ℤ TrapCause
settled kind n = if is_signed kind then (if fits kind n then Ok n else Err Overflow) else Ok (value kind n)

-- what a comparison gives
unfoldable pub truth : Bool → ℤ
truth b = if b then pos 1 else pos 0

unfoldable pub is_zero : ℤ → Bool
is_zero n = int_eq n (pos 0)

-- a shift by b bits is one of the kind's
unfoldable pub can_shift : IntKind → ℤ → Bool
can_shift kind b = int_le (pos 0) b && int_lt b (pos (width kind))

-- the product with a power of two, of a number that is not negative
unfoldable pub shifted_left : IntKind → ℤ → ℤ → Result ℤ TrapCause
shifted_left kind a b = if can_shift kind b && int_le (pos 0) a then settled kind (a *ℤ pos (2 ^ unsigned_abs b)) else Err Shift

-- the quotient by a power of two, rounded down: the sign is kept
unfoldable pub shifted_right : IntKind → ℤ → ℤ → Result ℤ TrapCause
shifted_right kind a b = if can_shift kind b then Ok (int_div_euclid a (pos (2 ^ unsigned_abs b))) else Err Shift

-- the quotient, rounded toward zero
unfoldable pub quotient : IntKind → ℤ → ℤ → Result ℤ TrapCause
quotient kind a b = if is_zero b then Err Divide else settled kind (int_div a b)

-- what that quotient leaves of a: a trap where the quotient is out of range, as for the least number of a signed kind over -1
unfoldable pub remainder : IntKind → ℤ → ℤ → Result ℤ TrapCause
remainder kind a b = if is_zero b then Err Divide else (if fits kind (int_div a b) then Ok (int_rem a b) else Err Overflow)

-- an operator on two values of the kind; for a shift b is the count, and on `||` and `&&` both values count
unfoldable pub apply : BinOp → IntKind → ℤ → ℤ → Result ℤ TrapCause
apply Or kind a b = Ok (truth (not (is_zero a) || not (is_zero b)))
apply And kind a b = Ok (truth (not (is_zero a) && not (is_zero b)))
apply BitOr kind a b = Ok (value kind (pos (bit_or (residue kind a) (residue kind b))))
apply Xor kind a b = Ok (value kind (pos (bit_xor (residue kind a) (residue kind b))))
apply BitAnd kind a b = Ok (value kind (pos (bit_and (residue kind a) (residue kind b))))
apply Equal kind a b = Ok (truth (int_eq a b))
apply Unequal kind a b = Ok (truth (not (int_eq a b)))
apply Less kind a b = Ok (truth (int_lt a b))
apply Greater kind a b = Ok (truth (int_lt b a))
apply AtMost kind a b = Ok (truth (int_le a b))
apply AtLeast kind a b = Ok (truth (int_le b a))
apply Left kind a b = shifted_left kind a b
apply Right kind a b = shifted_right kind a b
apply Add kind a b = settled kind (a +ℤ b)
apply Sub kind a b = settled kind (a -ℤ b)
apply Mul kind a b = settled kind (a *ℤ b)
apply Div kind a b = quotient kind a b
apply Rem kind a b = remainder kind a b

-- the operators of one number; `*` and `&` are of pointers
unfoldable pub is_arithmetic : UnOp → Bool
is_arithmetic Minus = true
is_arithmetic Plus = true
is_arithmetic Flip = true
is_arithmetic Not = true
is_arithmetic Star = false
is_arithmetic Amp = false

-- the bits of a kind, all of them 1
unfoldable pub all_ones : IntKind → ℕ
all_ones kind = 2 ^ width kind - 1

-- an operator on one value of the kind, which is promoted (C11 6.5.3.3); `~` turns each bit over
unfoldable pub apply_one : UnOp → IntKind → ℤ → Result ℤ TrapCause
apply_one Minus kind a = settled kind (pos 0 -ℤ a)
apply_one Flip kind a = Ok (value kind (pos (bit_xor (residue kind a) (all_ones kind))))
apply_one Not kind a = Ok (truth (is_zero a))
apply_one _ kind a = Ok a

-- the value of a character constant of one byte: that of a `char`, which is signed (C11 6.4.4.4)
unfoldable pub letter_value : ℕ → ℤ
letter_value byte = value I8 (pos byte)

-- only a shift takes a right operand that need not be of the kind
unfoldable pub is_shift : BinOp → Bool
is_shift Left = true
is_shift Right = true
is_shift _ = false

-- the conversion ranks (C11 6.3.1.1): `char`, `short`, `int`, `long`, `long long`, each with its unsigned type
unfoldable pub rank : IntKind → ℕ
rank I8 = 1
rank U8 = 1
rank I16 = 2
rank U16 = 2
rank I32 = 3
rank U32 = 3
rank Long = 4
rank ULong = 4
rank LLong = 5
rank ULLong = 5

-- the integer promotion (C11 6.3.1.1): what ranks below `int` becomes `int`
unfoldable pub promoted : IntKind → IntKind
promoted kind = if nat_lt (rank kind) (rank I32) then I32 else kind

-- the unsigned kind of the same rank
unfoldable pub unsigned_counterpart : IntKind → IntKind
unsigned_counterpart I8 = U8
unsigned_counterpart I16 = U16
unsigned_counterpart I32 = U32
unsigned_counterpart Long = ULong
unsigned_counterpart LLong = ULLong
unsigned_counterpart kind = kind

-- every number of the second kind is one of the first
unfoldable pub holds_all_of : IntKind → IntKind → Bool
holds_all_of a b = int_le (least a) (least b) && int_le (beyond b) (beyond a)

-- of two kinds alike in sign the one of the higher rank
unfoldable pub higher : IntKind → IntKind → IntKind
higher a b = if nat_lt (rank a) (rank b) then b else a

-- of a signed and an unsigned kind: the unsigned one if its rank is at least the other's, else the signed one if it
-- holds all numbers of the unsigned one, else the unsigned kind of the signed one's rank
unfoldable pub mixed : IntKind → IntKind → IntKind
mixed signed unsigned =
    if nat_le (rank signed) (rank unsigned) then unsigned else (if holds_all_of signed unsigned then signed else unsigned_counterpart signed)

-- the common kind of two promoted operands
unfoldable pub balanced : IntKind → IntKind → IntKind
balanced a b =
    if is_signed a then (if is_signed b then higher a b else mixed a b) else (if is_signed b then mixed b a else higher a b)

-- the usual arithmetic conversions (C11 6.3.1.8)
unfoldable pub common : IntKind → IntKind → IntKind
common a b = balanced (promoted a) (promoted b)
