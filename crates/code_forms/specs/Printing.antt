-- The code of `printf` and `putchar`.
use Rattle.std.specs.Prelude.{ℕ, zero, suc, List, [], ◌∷◌, ◌++◌, length, max, Option, Some, None}
use Rattle.cl_tree.specs.declared.tree.Expr.{Expr}
use Rattle.cl_tree.specs.declared.tree.Node.{out-Node}
use Rattle.cl_mean.specs.declared.form.Form.{Form}
use Rattle.cl_mean.specs.declared.form.Form.TheVariants as form
use Rattle.cl_mean.specs.Printing as printing
use Rattle.cl_mean.specs.Execution.{format_of}
use Rattle.en_image.specs.declared.instr.Form as shown
use Rattle.en_image.specs.declared.instr.Form.TheVariants.{D, U, X, C, Ld, Lu, Lx, Lld, Llu, Llx}
use Rattle.en_image.specs.declared.instr.Instr.{Instr}
use Rattle.en_image.specs.declared.instr.Instr.TheVariants as instr
use Rattle.code_forms.specs.Pieces.{Piece, no_code, then_do, then_piece}
use Rattle.code_forms.specs.Lowering.{Lowered}

-- the machine's form of a conversion
unfoldable pub form_for : Form → shown.Form
form_for form.D = D
form_for form.U = U
form_for form.X = X
form_for form.C = C
form_for form.Ld = Ld
form_for form.Lu = Lu
form_for form.Lx = Lx
form_for form.Lld = Lld
form_for form.Llu = Llu
form_for form.Llx = Llx

-- the pieces of a format, where the next number waits at a cell of the frame
unfoldable pub pieces_code : ℕ → List printing.Piece → ℕ → List Instr
pieces_code line [] cell = []
pieces_code line (printing.byte b ∷ ps) cell = instr.Byte b line ∷ pieces_code line ps cell
pieces_code line (printing.form f ∷ ps) cell = instr.Local cell ∷ instr.Fetch 1 ∷ instr.Show (form_for f) line ∷ pieces_code line ps (suc cell)

abbrev pub format_code : ℕ → Option (List printing.Piece) → ℕ → List Instr
format_code line None cell = []
format_code line (Some ps) cell = pieces_code line ps cell

-- so many cells are dropped
unfoldable pub drop_code : ℕ → List Instr
drop_code zero = []
drop_code (suc n) = instr.Drop (suc n) ∷ []

-- integers, of which each waits while the next is found
abbrev pub integers : List Lowered → Piece
integers [] = no_code
integers (e ∷ es) = then_piece e.value 1 (integers es)

-- All arguments are evaluated before the first byte goes out. The format fetches each from where it waits.
abbrev pub printed : ℕ → Option (List printing.Piece) → List Lowered → Piece
printed line pieces es = record {
  height = max (integers es).height (suc (length es));
  code = λ at top. (integers es).code at top ++ (format_code line pieces top ++ drop_code (length es));
}

-- the format comes first, and is a text
abbrev pub printing_of : ℕ → List Expr → List Lowered → Piece
printing_of line [] es = no_code
printing_of line (f ∷ rest) [] = no_code
printing_of line (f ∷ rest) (e ∷ es) = printed line (format_of (out-Node f.node)) es

-- `putchar` writes the low 8 bits of its argument
abbrev pub putting_of : ℕ → List Lowered → Piece
putting_of line (e ∷ []) = then_do e.value 0 (instr.Show C line ∷ [])
putting_of line _ = no_code
