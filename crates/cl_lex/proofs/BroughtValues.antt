-- Literals and strings have the values that a source can bring.
use Rattle.std.proofs.Common.{◌≡◌, ℕ, suc, zero, ◌+◌, ◌-◌, Bool, true, false, not, ◌&&◌, ◌||◌, cond, List, [], ◌∷◌, ◌++◌, Option, Some, None, length, take, drop, get_or, refl, sym, ap, ◌∙◌, arith}
use Rattle.std.specs.Prelude.{◌==◌, nat_lt, find}
use Prim.Native.Char.{code}
use Rattle.std.specs.List.{list_all, prefix_len}
use Rattle.std.proofs.lemmas.List.Folds.{list_all-append}
use Rattle.std.proofs.lemmas.Bool.{false≢true}
use Rattle.std.proofs.lemmas.Bool.Decides.{nat_tests}
use Rattle.cl_tree.specs.declared.kinds.IntKind.{IntKind}
use Rattle.cl_tree.specs.declared.kinds.IntKind.TheVariants.{I8, U8, I16, U16, I32, U32, Long, ULong, LLong, ULLong}
use Rattle.cl_tree.specs.declared.pieces.Width.{Width}
use Rattle.cl_tree.specs.declared.pieces.Width.TheVariants as width
use Rattle.cl_tree.specs.declared.pieces.Literal.{Literal}
use Rattle.cl_tree.specs.declared.pieces.Literal.TheVariants.{Number, Byte}
use Rattle.cl_tree.specs.declared.pieces.LiteralValue.{LiteralValue}
use Rattle.cl_tree.specs.declared.pieces.LiteralValue.TheVariants.{Wrong, Unfit, Holds}
use Rattle.cl_tree.specs.declared.pieces.Escape.{Escape}
use Rattle.cl_tree.specs.declared.pieces.Escape.TheVariants.{NoEscape, TooBig, Value}
use Rattle.cl_tree.specs.declared.pieces.TheConstants.{ESCAPES}
use Rattle.cl_tree.specs.Letters.{is_printable}
use Rattle.cl_tree.specs.Literals.{fitting, number_from, is_digit_in, are_digits, base_of, digits_of, width_of, types_of, limit, kind_of, with_kind, valued, numeral, suffixed, integer_split, integer, byte_or_big, by_digits, letter_escape, simple_escape, escape_at, by_escape, unescaped, escaped_letter, letter_inside, inside, letter, literal}
use Rattle.cl_tree.specs.Words.{literals, is_literal, is_byte}
use Rattle.cl_literals.proofs.Tests.{and_left, and_right, by_test}

pub both : (x y : Bool) → x ≡ true → y ≡ true → (x && y) ≡ true
both true y e h = h
both false y e h = e

abbrev pub literal_comes : Literal → Bool
literal_comes (Number v k) = is_literal v k
literal_comes (Byte b) = is_byte b

unfoldable pub ValueComes : LiteralValue → Type 0
ValueComes (Holds l) = literal_comes l ≡ true
ValueComes Wrong = Unit {0}
ValueComes Unfit = Unit {0}

wrong : ValueComes Wrong
unfolding ValueComes
wrong = tt

unfit : ValueComes Unfit
unfolding ValueComes
unfit = tt

holds : (l : Literal) → literal_comes l ≡ true → ValueComes (Holds l)
unfolding ValueComes
holds l h = h

-- integers

abbrev from_int : IntKind → Bool
from_int I8 = false
from_int U8 = false
from_int I16 = false
from_int U16 = false
from_int I32 = true
from_int U32 = true
from_int Long = true
from_int ULong = true
from_int LLong = true
from_int ULLong = true

same_limit : (k : IntKind) → from_int k ≡ true → limit k ≡ literals k
same_limit I8 e = absurd (false≢true e)
same_limit U8 e = absurd (false≢true e)
same_limit I16 e = absurd (false≢true e)
same_limit U16 e = absurd (false≢true e)
same_limit I32 e = refl
same_limit U32 e = refl
same_limit Long e = refl
same_limit ULong e = refl
same_limit LLong e = refl
same_limit ULLong e = refl

abbrev KindFits : ℕ → Option IntKind → Type 0
KindFits v None = Unit {0}
KindFits v (Some k) = is_literal v k ≡ true

find_step : (v : ℕ) (k : IntKind) (t : Bool) (rest : Option IntKind) → nat_lt v (limit k) ≡ t → from_int k ≡ true → KindFits v rest → KindFits v (cond t (Some k) rest)
unfolding is_literal
find_step v k true rest e w h = ap (nat_lt v) (sym (same_limit k w)) ∙ e
find_step v k false rest e w h = h

find_fits : (v : ℕ) (ks : List IntKind) → list_all from_int ks ≡ true → KindFits v (find (λ k. nat_lt v (limit k)) ks)
find_fits v [] w = tt
find_fits v (k ∷ ks) w = find_step v k (nat_lt v (limit k)) _ refl (and_left (from_int k) (list_all from_int ks) w) (find_fits v ks (and_right (from_int k) (list_all from_int ks) w))

all_from_int : (d u : Bool) (w : Width) → list_all from_int (types_of d u w) ≡ true
all_from_int true true width.Int = refl
all_from_int true true width.Long = refl
all_from_int true true width.LongLong = refl
all_from_int true false width.Int = refl
all_from_int true false width.Long = refl
all_from_int true false width.LongLong = refl
all_from_int false true width.Int = refl
all_from_int false true width.Long = refl
all_from_int false true width.LongLong = refl
all_from_int false false width.Int = refl
all_from_int false false width.Long = refl
all_from_int false false width.LongLong = refl

kind_fits : (d u : Bool) (w : Width) (v : ℕ) → KindFits v (kind_of d u w v)
unfolding kind_of
kind_fits d u w v = find_fits v (types_of d u w) (all_from_int d u w)

kind_comes : (v : ℕ) (x : Option IntKind) → KindFits v x → ValueComes (with_kind v x)
kind_comes v None h = unfit
kind_comes v (Some k) h = holds (Number v k) h

valued_comes : (d u : Bool) (w : Width) (x : Option ℕ) → ValueComes (valued d u w x)
valued_comes d u w None = unfit
valued_comes d u w (Some v) = kind_comes v (kind_of d u w v) (kind_fits d u w v)

numeral_comes : (u : Bool) (w : Width) (body : List ℕ) → ValueComes (numeral u w body)
unfolding numeral
numeral_comes u w body =
    let value = fitting (number_from (base_of body) 0 (digits_of body)) in
    by_test ValueComes (are_digits (base_of body) (digits_of body)) (valued (base_of body == 10) u w value) Wrong (valued_comes (base_of body == 10) u w value) wrong

suffixed_comes : (u : Bool) (body : List ℕ) (x : Option Width) → ValueComes (suffixed u body x)
suffixed_comes u body None = wrong
suffixed_comes u body (Some w) = numeral_comes u w body

pub integer_comes : (p : List ℕ) → ValueComes (integer p)
unfolding integer integer_split
integer_comes p = suffixed_comes _ _ (width_of _)

-- character constants

unfoldable EscapeComes : Escape → Type 0
EscapeComes NoEscape = Unit {0}
EscapeComes (TooBig n) = Unit {0}
EscapeComes (Value v n) = is_byte v ≡ true

no_escape : EscapeComes NoEscape
unfolding EscapeComes
no_escape = tt

too_big : (n : ℕ) → EscapeComes (TooBig n)
unfolding EscapeComes
too_big n = tt

a_value : (v n : ℕ) → is_byte v ≡ true → EscapeComes (Value v n)
unfolding EscapeComes
a_value v n e = e

byte_step : (n v : ℕ) (t : Bool) → nat_lt v 256 ≡ t → EscapeComes (cond t (Value v n) (TooBig n))
unfolding is_byte
byte_step n v true e = a_value v n e
byte_step n v false e = too_big n

big_comes : (n : ℕ) (x : Option ℕ) → EscapeComes (byte_or_big n x)
big_comes n None = too_big n
big_comes n (Some v) = byte_step n v (nat_lt v 256) refl

by_digits_comes : (base before : ℕ) (xs : List ℕ) → EscapeComes (by_digits base before xs)
unfolding by_digits
by_digits_comes base before xs =
    let n = prefix_len (is_digit_in base) xs in
    by_test EscapeComes (n == 0) NoEscape (byte_or_big (before + n) (fitting (number_from base 0 (take n xs)))) no_escape (big_comes (before + n) (fitting (number_from base 0 (take n xs))))

row_step : (t : Bool) (row : ℕ × ℕ) (rest : Option (ℕ × ℕ)) → is_byte row.1 ≡ true → EscapeComes (letter_escape rest) → EscapeComes (letter_escape (cond t (Some row) rest))
row_step true row rest e h = a_value row.1 1 e
row_step false row rest e h = h

rows_come : (b : ℕ) (rows : List (ℕ × ℕ)) → list_all (λ row. is_byte row.1) rows ≡ true → EscapeComes (letter_escape (find (λ row. row.0 == b) rows))
rows_come b [] e = no_escape
rows_come b (row ∷ rows) e = row_step _ row _ (and_left (is_byte row.1) (list_all (λ (r : ℕ × ℕ). is_byte r.1) rows) e) (rows_come b rows (and_right (is_byte row.1) (list_all (λ (r : ℕ × ℕ). is_byte r.1) rows) e))

simple_comes : (b : ℕ) → EscapeComes (simple_escape b)
unfolding simple_escape is_byte
simple_comes b = rows_come b ESCAPES refl

escape_comes : (xs : List ℕ) → EscapeComes (escape_at xs)
unfolding escape_at
escape_comes xs =
    let b = get_or xs 0 0 in
    by_test EscapeComes (length xs == 0) NoEscape _ no_escape
    (by_test EscapeComes (is_digit_in 8 b) (by_digits 8 0 (take 3 xs)) _ (by_digits_comes 8 0 (take 3 xs))
    (by_test EscapeComes (b == code "x") (by_digits 16 1 (drop 1 xs)) (simple_escape b) (by_digits_comes 16 1 (drop 1 xs)) (simple_comes b)))

escaped_comes : (n : ℕ) (e : Escape) → EscapeComes e → ValueComes (escaped_letter n e)
unfolding EscapeComes
escaped_comes n NoEscape h = wrong
escaped_comes n (TooBig k) h = by_test ValueComes _ Unfit Wrong unfit wrong
escaped_comes n (Value b k) h = by_test ValueComes _ (Holds (Byte b)) Wrong (holds (Byte b) h) wrong

printable_byte : (b : ℕ) → is_printable b ≡ true → is_byte b ≡ true
unfolding is_printable is_byte
printable_byte b e = grind (arith, nat_tests)

printable_comes : (b : ℕ) (t c : Bool) → is_printable b ≡ t → ValueComes (cond (t && c) (Holds (Byte b)) Wrong)
printable_comes b true true e = holds (Byte b) (printable_byte b e)
printable_comes b true false e = wrong
printable_comes b false c e = wrong

inside_comes : (xs : List ℕ) → ValueComes (letter_inside xs)
unfolding letter_inside
inside_comes xs =
    let b = get_or xs 0 0 in
    by_test ValueComes (length xs == 1) _ _ (printable_comes b (is_printable b) (not ((b == code "'") || (b == code "\\"))) refl)
    (by_test ValueComes (b == code "\\") (escaped_letter (length xs) (escape_at (drop 1 xs))) Wrong (escaped_comes (length xs) (escape_at (drop 1 xs)) (escape_comes (drop 1 xs))) wrong)

pub letter_comes : (p : List ℕ) → ValueComes (letter p)
unfolding letter
letter_comes p =
    let n = length p in
    by_test ValueComes (nat_lt n 2) Wrong _ wrong
    (by_test ValueComes ((get_or p 0 0 == code "'") && (get_or p (n - 1) 0 == code "'")) (letter_inside (inside p)) Wrong (inside_comes (inside p)) wrong)

pub literal_value_comes : (p : List ℕ) → ValueComes (literal p)
unfolding literal
literal_value_comes p = by_test ValueComes (get_or p 0 0 == code "'") (letter p) (integer p) (letter_comes p) (integer_comes p)

-- strings

unfoldable pub BytesCome : Option (List ℕ) → Type 0
BytesCome None = Unit {0}
BytesCome (Some bytes) = list_all is_byte bytes ≡ true

no_bytes : BytesCome None
unfolding BytesCome
no_bytes = tt

these : (bytes : List ℕ) → list_all is_byte bytes ≡ true → BytesCome (Some bytes)
unfolding BytesCome
these bytes h = h

one_more : (done : List ℕ) (v : ℕ) → list_all is_byte done ≡ true → is_byte v ≡ true → list_all is_byte (done ++ v ∷ []) ≡ true
one_more done v d e = list_all-append is_byte done (v ∷ []) ∙ both (list_all is_byte done) (is_byte v && true) d (both (is_byte v) true e refl)

escape_step : (more : ℕ → ℕ → Option (List ℕ)) (e : Escape) → EscapeComes e → ((v n : ℕ) → is_byte v ≡ true → BytesCome (more v n)) → BytesCome (by_escape more None e)
unfolding EscapeComes
escape_step more NoEscape h f = no_bytes
escape_step more (TooBig n) h f = no_bytes
escape_step more (Value v n) h f = f v n h

plain_step : (b : ℕ) (t : Bool) (x : Option (List ℕ)) → is_printable b ≡ t → (is_byte b ≡ true → BytesCome x) → BytesCome (cond t x None)
plain_step b true x e f = f (printable_byte b e)
plain_step b false x e f = no_bytes

pub unescaped_come : (skip : ℕ) (done xs : List ℕ) → list_all is_byte done ≡ true → BytesCome (unescaped skip done xs)
unescaped_come skip done [] d = these done d
unescaped_come (suc k) done (b ∷ bs) d = unescaped_come k done bs d
unescaped_come zero done (b ∷ bs) d =
    by_test BytesCome (b == code "\\") _ _
    (escape_step (λ v n. unescaped n (done ++ v ∷ []) bs) (escape_at bs) (escape_comes bs) (λ v n e. unescaped_come n (done ++ v ∷ []) bs (one_more done v d e)))
    (plain_step b (is_printable b) _ refl (λ e. unescaped_come 0 (done ++ b ∷ []) bs (one_more done b d e)))
