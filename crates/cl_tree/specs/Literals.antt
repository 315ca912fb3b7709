-- What literals mean: numbers (C11 6.4.4.1, 6.4.4.2), character constants (6.4.4.4) and strings (6.4.5).
use Rattle.std.specs.Prelude.{ℕ, suc, zero, ◌+◌, ◌-◌, ◌*◌, ◌^◌, Bool, true, false, not, ◌&&◌, ◌||◌, ◌==◌, nat_lt, nat_le, List, [], ◌∷◌, ◌++◌, Option, Some, None, length, take, drop, slice_index, find, codes, if◌then◌else◌}
use Rattle.std.specs.List.{list_all, prefix_len}
use Rattle.std.specs.Str.{bytes_eq}
use Rattle.cl_tree.specs.declared.kinds.IntKind.{IntKind}
use Rattle.cl_tree.specs.declared.kinds.IntKind.TheVariants.{I8, U8, I16, U16, I32, U32, Long, ULong, LLong, ULLong}
use Rattle.cl_tree.specs.declared.pieces.Width.{Width}
use Rattle.cl_tree.specs.declared.pieces.Width.TheVariants as width
use Rattle.cl_tree.specs.declared.pieces.Literal.TheVariants.{Number, Byte}
use Rattle.cl_tree.specs.declared.pieces.LiteralValue.{LiteralValue}
use Rattle.cl_tree.specs.declared.pieces.LiteralValue.TheVariants.{Wrong, Unfit, Holds}
use Rattle.cl_tree.specs.declared.pieces.Escape.{Escape}
use Rattle.cl_tree.specs.declared.pieces.Escape.TheVariants.{NoEscape, TooBig, Value}
use Rattle.cl_tree.specs.declared.pieces.TheConstants.{ESCAPES}
use Rattle.cl_tree.specs.Letters.{is_digit, is_printable}
use Prim.Native.Char.{code}

-- the value of a digit, 99 where the byte is none
unfoldable pub digit_of : ℕ → ℕ
digit_of b =
    if is_digit b then b - code "0"
    else (if nat_le (code "a") b && nat_le b (code "f") then b - code "a" + 10
    else (if nat_le (code "A") b && nat_le b (code "F") then b - code "A" + 10
    else 99))

unfoldable pub is_digit_in : ℕ → ℕ → Bool
is_digit_in base b = nat_lt (digit_of b) base

-- the digits behind a number, as one number; None where one is no digit of the base
abbrev pub number_from : ℕ → ℕ → List ℕ → Option ℕ
number_from base v [] = Some v
number_from base v (b ∷ bs) = if nat_lt (digit_of b) base then number_from base (v * base + digit_of b) bs else None

-- a number of 64 bits
abbrev pub fitting : Option ℕ → Option ℕ
fitting None = None
fitting (Some v) = if nat_lt v (2 ^ 64) then Some v else None

-- at least one digit, and no other byte
unfoldable pub are_digits : ℕ → List ℕ → Bool
are_digits base xs = nat_lt 0 (length xs) && list_all (is_digit_in base) xs

-- Integer literals: digits of a base, and a suffix.

unfoldable pub is_u : ℕ → Bool
is_u b = (b == code "u") || (b == code "U")

-- a byte of the body, which no suffix has
unfoldable pub is_body : ℕ → Bool
is_body b = not (is_u b || (b == code "l") || (b == code "L"))

-- a `u` stands first or last in a suffix
unfoldable pub has_u : List ℕ → Bool
has_u s = is_u (slice_index s 0) || is_u (slice_index s (length s - 1))

unfoldable pub without_u : List ℕ → List ℕ
without_u s =
    if is_u (slice_index s 0) then drop 1 s
    else (if is_u (slice_index s (length s - 1)) then take (length s - 1) s
    else s)

-- nothing, `l` or `ll` in one case
unfoldable pub width_of : List ℕ → Option Width
width_of s =
    if length s == 0 then Some width.Int
    else (if bytes_eq s (codes "l") || bytes_eq s (codes "L") then Some width.Long
    else (if bytes_eq s (codes "ll") || bytes_eq s (codes "LL") then Some width.LongLong
    else None))

unfoldable pub is_hex : List ℕ → Bool
is_hex xs = (slice_index xs 0 == code "0") && ((slice_index xs 1 == code "x") || (slice_index xs 1 == code "X"))

unfoldable pub base_of : List ℕ → ℕ
base_of xs = if is_hex xs then 16 else (if slice_index xs 0 == code "0" then 8 else 10)

unfoldable pub digits_of : List ℕ → List ℕ
digits_of xs = if is_hex xs then drop 2 xs else xs

-- the types that a literal may have, in their order: decimal or not, with a `u` or not
abbrev pub types_of : Bool → Bool → Width → List IntKind
types_of true false width.Int = I32 ∷ Long ∷ LLong ∷ []
types_of true false width.Long = Long ∷ LLong ∷ []
types_of true false width.LongLong = LLong ∷ []
types_of false false width.Int = I32 ∷ U32 ∷ Long ∷ ULong ∷ LLong ∷ ULLong ∷ []
types_of false false width.Long = Long ∷ ULong ∷ LLong ∷ ULLong ∷ []
types_of false false width.LongLong = LLong ∷ ULLong ∷ []
types_of true true width.Int = U32 ∷ ULong ∷ ULLong ∷ []
types_of true true width.Long = ULong ∷ ULLong ∷ []
types_of true true width.LongLong = ULLong ∷ []
types_of false true width.Int = U32 ∷ ULong ∷ ULLong ∷ []
types_of false true width.Long = ULong ∷ ULLong ∷ []
types_of false true width.LongLong = ULLong ∷ []

-- the numbers from 0 that a type has end before this one
abbrev pub limit : IntKind → ℕ
limit I8 = 2 ^ 7
limit U8 = 2 ^ 8
limit I16 = 2 ^ 15
limit U16 = 2 ^ 16
limit I32 = 2 ^ 31
limit U32 = 2 ^ 32
limit Long = 2 ^ 63
limit ULong = 2 ^ 64
limit LLong = 2 ^ 63
limit ULLong = 2 ^ 64

-- the first type that holds the value
unfoldable pub kind_of : Bool → Bool → Width → ℕ → Option IntKind
kind_of decimal unsigned w v = find (λ k. nat_lt v (limit k)) (types_of decimal unsigned w)

abbrev pub with_kind : ℕ → Option IntKind → LiteralValue
with_kind v None = Unfit
with_kind v (Some k) = Holds (Number v k)

abbrev pub valued : Bool → Bool → Width → Option ℕ → LiteralValue
valued decimal unsigned w None = Unfit
valued decimal unsigned w (Some v) = with_kind v (kind_of decimal unsigned w v)

-- a body with a suffix of this meaning
unfoldable pub numeral : Bool → Width → List ℕ → LiteralValue
numeral unsigned w body =
    if are_digits (base_of body) (digits_of body) then valued (base_of body == 10) unsigned w (fitting (number_from (base_of body) 0 (digits_of body)))
    else Wrong

abbrev pub suffixed : Bool → List ℕ → Option Width → LiteralValue
suffixed unsigned body None = Wrong
suffixed unsigned body (Some w) = numeral unsigned w body

-- the integer literal that these bytes spell
unfoldable pub integer_split : List ℕ → List ℕ → LiteralValue
integer_split body suffix = suffixed (has_u suffix) body (width_of (without_u suffix))

unfoldable pub integer : List ℕ → LiteralValue
integer p = integer_split (take (prefix_len is_body p) p) (drop (prefix_len is_body p) p)

-- Decimal floating literals: digits with a point among them or an exponent behind them, and a suffix.

unfoldable pub behind_digits : List ℕ → List ℕ
behind_digits xs = drop (prefix_len is_digit xs) xs

unfoldable pub is_float_suffix : ℕ → Bool
is_float_suffix b = (b == code "f") || (b == code "F") || (b == code "l") || (b == code "L")

-- nothing or one letter behind the digits
unfoldable pub ends_float : List ℕ → Bool
ends_float xs = if length xs == 0 then true else ((length xs == 1) && is_float_suffix (slice_index xs 0))

unfoldable pub behind_sign : List ℕ → List ℕ
behind_sign xs = if (slice_index xs 0 == code "+") || (slice_index xs 0 == code "-") then drop 1 xs else xs

-- an exponent's digits, and the end
unfoldable pub ends_exponent : List ℕ → Bool
ends_exponent xs = is_digit (slice_index xs 0) && ends_float (behind_digits xs)

unfoldable pub is_exponent : List ℕ → Bool
is_exponent xs = ((slice_index xs 0 == code "e") || (slice_index xs 0 == code "E")) && ends_exponent (behind_sign (drop 1 xs))

unfoldable pub ends_fraction : List ℕ → Bool
ends_fraction xs = ends_float xs || is_exponent xs

-- a floating literal, where `rest` stands behind its first digits
unfoldable pub is_floating_from : List ℕ → List ℕ → Bool
is_floating_from p rest =
    if slice_index rest 0 == code "." then (is_digit (slice_index p 0) || is_digit (slice_index rest 1)) && ends_fraction (behind_digits (drop 1 rest))
    else (is_digit (slice_index p 0) && is_exponent rest)

unfoldable pub is_floating : List ℕ → Bool
is_floating p = is_floating_from p (behind_digits p)

-- Character constants and strings.

abbrev pub byte_or_big : ℕ → Option ℕ → Escape
byte_or_big n None = TooBig n
byte_or_big n (Some v) = if nat_lt v 256 then Value v n else TooBig n

-- a byte by the digits that a text begins with; `before` bytes stand before them
unfoldable pub by_digits : ℕ → ℕ → List ℕ → Escape
by_digits base before xs =
    if prefix_len (is_digit_in base) xs == 0 then NoEscape
    else byte_or_big (before + prefix_len (is_digit_in base) xs) (fitting (number_from base 0 (take (prefix_len (is_digit_in base) xs) xs)))

-- the escapes of one letter
abbrev pub letter_escape : Option (ℕ × ℕ) → Escape
letter_escape None = NoEscape
letter_escape (Some row) = Value row.1 1

unfoldable pub simple_escape : ℕ → Escape
simple_escape b = letter_escape (find (λ row. row.0 == b) ESCAPES)

-- what stands behind a backslash: one to three octal digits, `x` and hexadecimal digits, or one letter
unfoldable pub escape_at : List ℕ → Escape
escape_at xs =
    if length xs == 0 then NoEscape
    else (if is_digit_in 8 (slice_index xs 0) then by_digits 8 0 (take 3 xs)
    else (if slice_index xs 0 == code "x" then by_digits 16 1 (drop 1 xs)
    else simple_escape (slice_index xs 0)))

abbrev pub by_escape : {A : Type 0} → (ℕ → ℕ → A) → A → Escape → A
by_escape more stop NoEscape = stop
by_escape more stop (TooBig n) = stop
by_escape more stop (Value v n) = more v n

-- the bytes that the inside of a string means, behind those that are done; the next `skip` bytes belong to an escape
abbrev pub unescaped : ℕ → List ℕ → List ℕ → Option (List ℕ)
unescaped skip done [] = Some done
unescaped (suc k) done (b ∷ bs) = unescaped k done bs
unescaped zero done (b ∷ bs) =
    if b == code "\\" then by_escape (λ v n. unescaped n (done ++ v ∷ []) bs) None (escape_at bs)
    else (if is_printable b then unescaped 0 (done ++ b ∷ []) bs else None)

-- an escape that is the whole of n bytes
abbrev pub escaped_letter : ℕ → Escape → LiteralValue
escaped_letter n NoEscape = Wrong
escaped_letter n (TooBig k) = if 1 + k == n then Unfit else Wrong
escaped_letter n (Value b k) = if 1 + k == n then Holds (Byte b) else Wrong

-- the inside of a character constant: one printable byte other than `'` and a backslash, or one escape
unfoldable pub letter_inside : List ℕ → LiteralValue
letter_inside xs =
    if length xs == 1 then (if is_printable (slice_index xs 0) && not ((slice_index xs 0 == code "'") || (slice_index xs 0 == code "\\")) then Holds (Byte (slice_index xs 0)) else Wrong)
    else (if slice_index xs 0 == code "\\" then escaped_letter (length xs) (escape_at (drop 1 xs))
    else Wrong)

-- without the first and the last byte
unfoldable pub inside : List ℕ → List ℕ
inside p = take (length p - 1 - 1) (drop 1 p)

-- the character constant that these bytes spell
unfoldable pub letter : List ℕ → LiteralValue
letter p =
    if nat_lt (length p) 2 then Wrong
    else (if (slice_index p 0 == code "'") && (slice_index p (length p - 1) == code "'") then letter_inside (inside p)
    else Wrong)

-- the integer literal or character constant that these bytes spell
unfoldable pub literal : List ℕ → LiteralValue
literal p = if slice_index p 0 == code "'" then letter p else integer p
