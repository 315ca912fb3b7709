-- The bytes that `printf` writes (C11 7.21.6.1, for the conversions of the profile).
use Rattle.std.specs.Prelude.{ℕ, suc, ◌==◌, Bool, false, ℤ, Option, Some, None, List, [], ◌∷◌, ◌++◌, map, if◌then◌else◌, slice_index, codes, decimal}
use Rattle.std.specs.Fmt.{digits, signed_decimal}
use Rattle.cl_tree.specs.declared.kinds.IntKind.TheVariants.{U8, I32, U32, Long, ULong, LLong, ULLong}
use Rattle.cl_tree.specs.Arithmetic.{value, residue}
use Rattle.cl_mean.specs.declared.form.Form.{Form}
use Rattle.cl_mean.specs.declared.form.Form.TheVariants.{D, U, X, C, Ld, Lu, Lx, Lld, Llu, Llx}
use Rattle.cl_mean.specs.Value.{Labelled}
use Rattle.cl_mean.specs.State.{Written}

-- ---- formats

-- what a format has in order: bytes that stand for themselves, and conversions
pub data Piece : Type 0 where
  byte : ℕ → Piece
  form : Form → Piece

-- how far a conversion is read: not begun, or `%`, `%l`, `%ll`
pub data Begun : Type 0 where
  text : Begun
  percent : Begun
  long : Begun
  long_long : Begun

abbrev pub is_char : List ℕ → ℕ → Bool
is_char c b = slice_index c 0 == b

abbrev pub with_piece : Piece → Option (List Piece) → Option (List Piece)
with_piece p None = None
with_piece p (Some ps) = Some (p ∷ ps)

-- The pieces of a format, if it has no other conversions.
unfoldable pub pieces_from : Begun → List ℕ → Option (List Piece)
pieces_from text [] = Some []
pieces_from begun [] = None
pieces_from text (b ∷ bs) =
    if is_char (codes "%") b then pieces_from percent bs else with_piece (byte b) (pieces_from text bs)
pieces_from percent (b ∷ bs) =
    if is_char (codes "l") b then pieces_from long bs
    else (if is_char (codes "d") b then with_piece (form D) (pieces_from text bs)
    else (if is_char (codes "u") b then with_piece (form U) (pieces_from text bs)
    else (if is_char (codes "x") b then with_piece (form X) (pieces_from text bs)
    else (if is_char (codes "c") b then with_piece (form C) (pieces_from text bs)
    else (if is_char (codes "%") b then with_piece (byte b) (pieces_from text bs) else None)))))
pieces_from long (b ∷ bs) =
    if is_char (codes "l") b then pieces_from long_long bs
    else (if is_char (codes "d") b then with_piece (form Ld) (pieces_from text bs)
    else (if is_char (codes "u") b then with_piece (form Lu) (pieces_from text bs)
    else (if is_char (codes "x") b then with_piece (form Lx) (pieces_from text bs) else None)))
pieces_from long_long (b ∷ bs) =
    if is_char (codes "d") b then with_piece (form Lld) (pieces_from text bs)
    else (if is_char (codes "u") b then with_piece (form Llu) (pieces_from text bs)
    else (if is_char (codes "x") b then with_piece (form Llx) (pieces_from text bs) else None))

abbrev pub pieces_of : List ℕ → Option (List Piece)
pieces_of = pieces_from text

-- how many conversions there are
abbrev pub conversions : List Piece → ℕ
conversions [] = 0
conversions (byte b ∷ ps) = conversions ps
conversions (form f ∷ ps) = suc (conversions ps)

-- ---- what is written

abbrev pub hexadecimal : ℕ → List ℕ
hexadecimal n = digits 16 false n

-- a number as a conversion writes it: taken into the conversion's own type
unfoldable pub form_text : Form → ℤ → List ℕ
form_text D n = signed_decimal (value I32 n)
form_text U n = decimal (residue U32 n)
form_text X n = hexadecimal (residue U32 n)
form_text C n = residue U8 n ∷ []
form_text Ld n = signed_decimal (value Long n)
form_text Lu n = decimal (residue ULong n)
form_text Lx n = hexadecimal (residue ULong n)
form_text Lld n = signed_decimal (value LLong n)
form_text Llu n = decimal (residue ULLong n)
form_text Llx n = hexadecimal (residue ULLong n)

abbrev pub byte_for : Labelled → ℕ → Written
byte_for x b = record { byte = b; labels = x.labels }

abbrev pub form_bytes : Form → Labelled → List Written
form_bytes f x = map (byte_for x) (form_text f x.number)

-- the bytes of a format and its arguments, of which there is one for each conversion
unfoldable pub printed : List Piece → List Labelled → List Written
printed [] xs = []
printed (byte b ∷ ps) xs = record { byte = b; labels = [] } ∷ printed ps xs
printed (form f ∷ ps) [] = printed ps []
printed (form f ∷ ps) (x ∷ xs) = form_bytes f x ++ printed ps xs
