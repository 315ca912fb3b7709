-- How `printf` writes a number.
use Rattle.std.specs.Prelude.{ℕ, false, List, [], ◌∷◌, ℤ, unsigned_abs}
use Rattle.std.specs.Fmt.{digits, signed_decimal}
use Rattle.cl_tree.specs.Arithmetic.{value}
use Rattle.cl_tree.specs.declared.kinds.IntKind.{IntKind}
use Rattle.cl_tree.specs.declared.kinds.IntKind.TheVariants.{U8, I32, U32, Long, ULong, LLong, ULLong}
use Rattle.en_image.specs.declared.instr.Form.{Form}
use Rattle.en_image.specs.declared.instr.Form.TheVariants.{D, U, X, C, Ld, Lu, Lx, Lld, Llu, Llx}

-- the form's own type; `%c` writes the low eight bits
unfoldable pub kind_of : Form → IntKind
kind_of D = I32
kind_of U = U32
kind_of X = U32
kind_of C = U8
kind_of Ld = Long
kind_of Lu = ULong
kind_of Lx = ULong
kind_of Lld = LLong
kind_of Llu = ULLong
kind_of Llx = ULLong

-- a number that is converted already: in decimal with its sign, in hexadecimal with small letters, or as one byte
unfoldable pub spelled : Form → ℤ → List ℕ
spelled X n = digits 16 false (unsigned_abs n)
spelled Lx n = digits 16 false (unsigned_abs n)
spelled Llx n = digits 16 false (unsigned_abs n)
spelled C n = unsigned_abs n ∷ []
spelled D n = signed_decimal n
spelled Ld n = signed_decimal n
spelled Lld n = signed_decimal n
spelled U n = signed_decimal n
spelled Lu n = signed_decimal n
spelled Llu n = signed_decimal n

-- the bytes that a form writes for a number
unfoldable pub text : Form → ℤ → List ℕ
text form n = spelled form (value (kind_of form) n)
