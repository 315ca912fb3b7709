-- The worked examples on numbers, which compute.
use Rattle.std.proofs.Common.{◌≡◌, pos, negsuc, Ok, Err, refl}
use Rattle.cl_tree.specs.declared.kinds.IntKind.TheVariants.{I8, U16, I32, U32}
use Rattle.cl_tree.specs.declared.kinds.BinOp.TheVariants.{Left, Right, Sub, Div, Rem}
use Rattle.cl_tree.specs.declared.kinds.UnOp.TheVariants.{Minus, Flip}
use Rattle.cl_tree.specs.declared.kinds.TrapCause.TheVariants.{Overflow, Shift}
use Rattle.cl_tree.specs.Arithmetic.{width, is_signed, least, beyond, fits, residue, value, settled, is_zero, can_shift, shifted_left, shifted_right, quotient, remainder, apply, apply_one, all_ones, letter_value}

pub to_char_is : value I8 (pos 200) ≡ negsuc 55
unfolding width is_signed least beyond fits residue value settled is_zero can_shift shifted_left shifted_right quotient remainder apply
to_char_is = refl

pub to_unsigned_short_is : value U16 (negsuc 0) ≡ pos 65535
unfolding width is_signed least beyond fits residue value settled is_zero can_shift shifted_left shifted_right quotient remainder apply
to_unsigned_short_is = refl

pub ruleset values = (to_char_is, to_unsigned_short_is)

pub remainder_is : apply Rem I32 (negsuc 6) (pos 3) ≡ Ok (negsuc 0)
unfolding width is_signed least beyond fits residue value settled is_zero can_shift shifted_left shifted_right quotient remainder apply
remainder_is = refl

pub least_divided_is : apply Div I32 (negsuc 2147483647) (negsuc 0) ≡ Err Overflow
unfolding width is_signed least beyond fits residue value settled is_zero can_shift shifted_left shifted_right quotient remainder apply
least_divided_is = refl

pub least_remainder_is : apply Rem I32 (negsuc 2147483647) (negsuc 0) ≡ Err Overflow
unfolding width is_signed least beyond fits residue value settled is_zero can_shift shifted_left shifted_right quotient remainder apply
least_remainder_is = refl

pub ruleset divisions = (remainder_is, least_divided_is, least_remainder_is)

pub negative_is : apply Left I32 (negsuc 0) (pos 1) ≡ Err Shift
unfolding width is_signed least beyond fits residue value settled is_zero can_shift shifted_left shifted_right quotient remainder apply
negative_is = refl

pub rounded_down_is : apply Right I32 (negsuc 4) (pos 1) ≡ Ok (negsuc 2)
unfolding width is_signed least beyond fits residue value settled is_zero can_shift shifted_left shifted_right quotient remainder apply
rounded_down_is = refl

pub into_the_sign_is : apply Left I32 (pos 1) (pos 31) ≡ Err Overflow
unfolding width is_signed least beyond fits residue value settled is_zero can_shift shifted_left shifted_right quotient remainder apply
into_the_sign_is = refl

pub ruleset shifts = (negative_is, rounded_down_is, into_the_sign_is)

pub below_zero_is : apply Sub U32 (pos 0) (pos 1) ≡ Ok (pos 4294967295)
unfolding width is_signed least beyond fits residue value settled is_zero can_shift shifted_left shifted_right quotient remainder apply
below_zero_is = refl

pub ruleset wrapped = (below_zero_is, below_zero_is)

pub least_negated_is : apply_one Minus I32 (negsuc 2147483647) ≡ Err Overflow
unfolding width is_signed least beyond fits residue value settled is_zero apply_one
least_negated_is = refl

pub unsigned_negated_is : apply_one Minus U32 (pos 1) ≡ Ok (pos 4294967295)
unfolding width is_signed least beyond fits residue value settled is_zero apply_one
unsigned_negated_is = refl

pub flipped_is : apply_one Flip I32 (pos 5) ≡ Ok (negsuc 5)
unfolding width is_signed least beyond fits residue value settled is_zero all_ones apply_one
flipped_is = refl

pub letter_is : letter_value 255 ≡ negsuc 0
unfolding width is_signed least beyond fits residue value letter_value
letter_is = refl

pub ruleset signs = (least_negated_is, unsigned_negated_is, flipped_is, letter_is)
