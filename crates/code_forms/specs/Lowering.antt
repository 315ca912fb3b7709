-- The code of an expression: as a value, and as a place where a variable is at its root. Operands go from left to right, each
-- before its operator, and an index is checked as soon as it is there.
use Rattle.std.specs.Prelude.{ℕ, zero, suc, ◌+◌, ◌-◌, Bool, true, false, pos, List, [], ◌∷◌, ◌++◌, length, max, Option, Some, None, if◌then◌else◌, bytes_eq, codes}
use Rattle.cl_tree.specs.declared.kinds.IntKind.{IntKind}
use Rattle.cl_tree.specs.declared.kinds.IntKind.TheVariants.{I32}
use Rattle.cl_tree.specs.declared.kinds.UnOp.{UnOp}
use Rattle.cl_tree.specs.declared.kinds.BinOp.{BinOp}
use Rattle.cl_tree.specs.declared.kinds.BinOp.TheVariants.{Or, And}
use Rattle.cl_tree.specs.declared.tree.Expr.{Expr, fold-Expr}
use Rattle.cl_tree.specs.declared.tree.Node.{Node-F}
use Rattle.cl_tree.specs.declared.tree.Node.TheOpen as node
use Rattle.cl_tree.specs.Arithmetic.{value, letter_value, holds_all_of, promoted, common, is_arithmetic}
use Rattle.cl_tree.specs.Words.{Word}
use Rattle.cl_mean.specs.Shape.{Shape, integer, shape_of, kind_in, count_of}
use Rattle.cl_mean.specs.Evaluation.{working_kind, right_kind, given_kind, kind_by}
use Rattle.en_image.specs.declared.instr.Instr.{Instr}
use Rattle.en_image.specs.declared.instr.Instr.TheVariants as instr
use Rattle.code_forms.specs.declared.route.Route.{Route}
use Rattle.code_forms.specs.declared.route.Route.TheVariants.{Within, Across, Astray}
use Rattle.code_forms.specs.Layout.{integer_in, Elements, elements_in, Section, member_in, is_array, width_of, lent_count, widths, counts, lent_counts, Meant, Bound, meant_by, address, Callee, callee_of, Facts}
use Rattle.code_forms.specs.Pieces.{Piece, no_code, single, then_do, then_piece}

-- An expression: its type; the code of its place, if a variable is at its root, which leaves an address; an instruction that
-- pushes this address once more where it is on top; the code of its value, which leaves its cells.
pub record Lowered : Type 0 where
  pub shape : Shape
  pub place : Option Piece
  pub again : Instr
  pub value : Piece

abbrev pub kind_of : Lowered → IntKind
kind_of e = kind_in e.shape

-- no accepted source wants the place of what has none
abbrev pub the_place : Option Piece → Piece
the_place None = no_code
the_place (Some p) = p

abbrev pub place_of : Lowered → Piece
place_of e = the_place e.place

-- a value that has no place
abbrev pub held : Shape → Piece → Lowered
held shape p = record { shape = shape; place = None; again = instr.Copy; value = p }

abbrev pub computed : IntKind → Piece → Lowered
computed kind p = held (integer kind) p

-- a form that no accepted source has
abbrev pub senseless : Lowered
senseless = computed I32 no_code

-- the cells at an address
abbrev pub loaded : Shape → Piece → Piece
loaded shape p = then_do p (count_of shape) (instr.Fetch (count_of shape) ∷ [])

abbrev pub placed : Shape → Instr → Piece → Lowered
placed shape again p = record { shape = shape; place = Some p; again = again; value = loaded shape p }

-- ---- integers

-- no conversion changes a number of a kind whose numbers are all of the other
unfoldable pub convert_code : IntKind → IntKind → List Instr
convert_code from to = if holds_all_of to from then [] else instr.Convert to ∷ []

abbrev pub converted : IntKind → IntKind → Piece → Piece
converted from to p = then_do p 1 (convert_code from to)

-- an operand, converted
abbrev pub operand : IntKind → Lowered → Piece
operand kind e = converted (kind_of e) kind e.value

-- a value in a type: an integer is converted to its kind, a struct is of that type already
abbrev pub in_kind : Option IntKind → Lowered → Piece
in_kind None e = e.value
in_kind (Some kind) e = operand kind e

abbrev pub in_type : Shape → Lowered → Piece
in_type shape e = in_kind (integer_in shape) e

-- `&&`: where both are true 1, else 0
abbrev pub both_code : List Instr → ℕ → List Instr → List Instr
both_code a past b =
    a ++ (instr.Zero past ∷ (b ++ (instr.Zero past ∷ instr.Push (pos 1) ∷ instr.Jump (past + 1) ∷ instr.Push (pos 0) ∷ [])))

abbrev pub both : Piece → Piece → Piece
both a b = record {
  height = max (max a.height b.height) 1;
  code = λ at top.
      let first = a.code at top in
      let second = b.code (at + length first + 1) top in
      both_code first (at + length first + length second + 4) second;
}

-- `||`: where the first is false, the second decides
abbrev pub either_code : List Instr → ℕ → ℕ → List Instr → List Instr
either_code a second holds b =
    a ++ (instr.Zero second ∷ instr.Jump holds ∷ (b ++ (instr.Zero (holds + 2) ∷ instr.Push (pos 1) ∷ instr.Jump (holds + 3) ∷ instr.Push (pos 0) ∷ [])))

abbrev pub either : Piece → Piece → Piece
either a b = record {
  height = max (max a.height b.height) 1;
  code = λ at top.
      let first = a.code at top in
      let second = b.code (at + length first + 2) top in
      either_code first (at + length first + 2) (at + length first + length second + 3) second;
}

-- the operators that evaluate both operands
abbrev pub worked : BinOp → ℕ → Lowered → Lowered → Piece
worked op line a b =
    then_do (then_piece (operand (working_kind op (kind_of a) (kind_of b)) a) 1 (operand (right_kind op (kind_of a) (kind_of b)) b))
    1 (instr.Two op (working_kind op (kind_of a) (kind_of b)) line ∷ [])

-- whether an operator is `&&` or `||`: the value of the left operand that decides
unfoldable pub logic_of : BinOp → Option Bool
logic_of Or = Some true
logic_of And = Some false
logic_of _ = None

abbrev pub logical : Bool → Piece → Piece → Piece
logical true a b = either a b
logical false a b = both a b

abbrev pub binary_by : Option Bool → BinOp → ℕ → Lowered → Lowered → Lowered
binary_by None op line a b = computed (given_kind op (working_kind op (kind_of a) (kind_of b))) (worked op line a b)
binary_by (Some decides) op line a b = computed I32 (logical decides a.value b.value)

abbrev pub binary : BinOp → ℕ → Lowered → Lowered → Lowered
binary op line a b = binary_by (logic_of op) op line a b

abbrev pub worked_one : UnOp → ℕ → Lowered → Lowered
worked_one op line a =
    computed (kind_by op (promoted (kind_of a))) (then_do (operand (promoted (kind_of a)) a) 1 (instr.One op (promoted (kind_of a)) line ∷ []))

abbrev pub unary : UnOp → ℕ → Lowered → Lowered
unary op line a = if is_arithmetic op then worked_one op line a else senseless

-- there is no cast to another type
abbrev pub cast_to : Option IntKind → Lowered → Lowered
cast_to None a = senseless
cast_to (Some kind) a = computed kind (operand kind a)

-- `?:`
abbrev pub chosen_code : List Instr → ℕ → List Instr → ℕ → List Instr → List Instr
chosen_code test other a end b = test ++ (instr.Zero other ∷ (a ++ (instr.Jump end ∷ b)))

abbrev pub chosen : Piece → Piece → Piece → Piece
chosen test a b = record {
  height = max test.height (max a.height b.height);
  code = λ at top.
      let first = test.code at top in
      let second = a.code (at + length first + 1) top in
      let third = b.code (at + length first + length second + 2) top in
      chosen_code first (at + length first + length second + 2) second (at + length first + length second + 2 + length third) third;
}

abbrev pub choice : Lowered → Lowered → Lowered → Lowered
choice test a b =
    computed (common (kind_of a) (kind_of b))
    (chosen test.value (operand (common (kind_of a) (kind_of b)) a) (operand (common (kind_of a) (kind_of b)) b))

-- ---- elements and members

-- a value that waits in so many cells, and the address of the first of them, twice
abbrev pub then_twice : ℕ → Piece → Piece
then_twice whole a = record { height = max a.height (whole + 2); code = λ at top. a.code at top ++ (instr.Local top ∷ instr.Local top ∷ []) }

-- The element of a value that has no place: the value waits in its cells, of which the element's take the first ones.
abbrev pub element_held : ℕ → Elements → ℕ → Piece → Piece → Piece
element_held line es whole a index = then_do (then_piece (then_twice whole a) (whole + 2) index) (whole + 1 + count_of es.shape)
    (instr.At es.count (count_of es.shape) line ∷ instr.Fetch (count_of es.shape) ∷ instr.Store (count_of es.shape) ∷ instr.Drop (whole - count_of es.shape) ∷ [])

-- Where the array has a place, its element is a part of that place.
abbrev pub element_of : ℕ → Elements → Lowered → Lowered → Option Piece → Lowered
element_of line es a b (Some p) =
    placed es.shape instr.Copy (then_do (then_piece p 1 b.value) 1 (instr.At es.count (count_of es.shape) line ∷ []))
element_of line es a b None = held es.shape (element_held line es (count_of a.shape) a.value b.value)

-- only an array is indexed
abbrev pub indexed : Option Elements → ℕ → Lowered → Lowered → Lowered
indexed None line a b = senseless
indexed (Some es) line a b = element_of line es a b a.place

-- a part of a value that has no place
abbrev pub section_held : Section → ℕ → Piece → Piece
section_held part whole a = record {
  height = max a.height (whole + 1 + count_of part.shape);
  code = λ at top. a.code at top
      ++ (instr.Local top ∷ instr.Local (top + part.offset) ∷ instr.Fetch (count_of part.shape) ∷ instr.Store (count_of part.shape) ∷ instr.Drop (whole - count_of part.shape) ∷ []);
}

abbrev pub section_of : Section → Lowered → Option Piece → Lowered
section_of part a (Some p) = placed part.shape instr.Copy (then_do p 1 (instr.Offset part.offset ∷ []))
section_of part a None = held part.shape (section_held part (count_of a.shape) a.value)

-- only a struct has members
abbrev pub selected : Option Section → Lowered → Lowered
selected None a = senseless
selected (Some part) a = section_of part a a.place

abbrev pub variable : Meant → Lowered
variable m = placed m.shape (address m.storage) (single (address m.storage))

-- an accepted source uses known names alone
abbrev pub variable_of : Option Meant → Lowered
variable_of None = senseless
variable_of (Some m) = variable m

-- ---- calls

-- an array is lent by its address, anything else is given in the parameter's type
abbrev pub argument : Shape → Lowered → Piece
argument shape e = if is_array shape then place_of e else in_type shape e

abbrev pub arguments : List Shape → List Lowered → Piece
arguments [] es = no_code
arguments (s ∷ ss) [] = no_code
arguments (s ∷ ss) (e ∷ es) = then_piece (argument s e) (width_of s) (arguments ss es)

-- the values of an argument that begins at a cell of the frame
abbrev pub values_code : Shape → ℕ → List Instr
values_code shape cell = (if is_array shape then instr.Borrowed cell else instr.Local cell) ∷ instr.Fetch (count_of shape) ∷ []

-- the values of a request, where the arguments begin at a cell of the frame; those of arrays are read when all are there
abbrev pub request_code : List Shape → ℕ → List Instr
request_code [] cell = []
request_code (s ∷ ss) cell = values_code s cell ++ request_code ss (cell + width_of s)

-- an array takes its values of a reply, which begin at another cell
abbrev pub taken_code : Shape → ℕ → ℕ → List Instr
taken_code shape cell from =
    if is_array shape then instr.Borrowed cell ∷ instr.Local from ∷ instr.Fetch (count_of shape) ∷ instr.Store (count_of shape) ∷ [] else []

abbrev pub reply_code : List Shape → ℕ → ℕ → List Instr
reply_code [] cell from = []
reply_code (s ∷ ss) cell from = taken_code s cell from ++ reply_code ss (cell + width_of s) (from + lent_count s)

-- A result, which waits at a cell of the frame, goes to another one, and so many cells are dropped.
unfoldable pub settle_code : ℕ → ℕ → ℕ → ℕ → List Instr
settle_code to from result zero = []
settle_code to from zero (suc n) = instr.Drop (suc n) ∷ []
settle_code to from (suc r) (suc n) = instr.Local to ∷ instr.Local from ∷ instr.Fetch (suc r) ∷ instr.Store (suc r) ∷ instr.Drop (suc n) ∷ []

-- behind the arguments, which begin at a cell of the frame: the request, the reply to it, and the result alone
abbrev pub across_code : ℕ → ℕ → List Shape → ℕ → ℕ → List Instr
across_code row line ss result top =
    request_code ss top ++ (instr.Ask row line
    ∷ (reply_code ss top (top + widths ss + result) ++ settle_code top (top + widths ss) result (widths ss + lent_counts ss)))

abbrev pub asked : ℕ → ℕ → List Shape → ℕ → Piece → Piece
asked row line ss result args = record {
  height = max args.height (max (widths ss + counts ss) (widths ss + result + lent_counts ss + 1 + max result (lent_counts ss)));
  code = λ at top. args.code at top ++ across_code row line ss result top;
}

abbrev pub called_by : Route → ℕ → Callee → Piece → Piece
called_by Within line c args = then_do args (count_of c.result) (instr.Call c.index c.line ∷ [])
called_by (Across row) line c args = asked row line c.params (count_of c.result) args
called_by Astray line c args = no_code

abbrev pub call_of : ℕ → List Lowered → Option Callee → Lowered
call_of line es None = senseless
call_of line es (Some c) = held c.result (called_by c.route line c (arguments c.params es))

-- `getchar` takes no argument
abbrev pub reading : List Lowered → Lowered
reading [] = computed I32 (single instr.Get)
reading (e ∷ es) = senseless

abbrev pub call_named : Facts → ℕ → Word → List Lowered → Lowered
call_named facts line name es =
    if bytes_eq name (codes "getchar") then reading es else call_of line es (callee_of facts.callees name)

-- ---- expressions

-- A node waits for the two lines of its expression.
abbrev pub node_lowered : Facts → List Bound → Node-F (ℕ → ℕ → Lowered) Lowered → ℕ → ℕ → Lowered
node_lowered facts known (node.Number n kind) line second = computed kind (single (instr.Push (value kind (pos n))))
node_lowered facts known (node.Letter byte) line second = computed I32 (single (instr.Push (letter_value byte)))
node_lowered facts known (node.Variable name) line second = variable_of (meant_by known name)
node_lowered facts known (node.Unary op a) line second = unary op line a
node_lowered facts known (node.Binary op a b) line second = binary op second a b
node_lowered facts known (node.Choice test a b) line second = choice test a b
node_lowered facts known (node.Cast ctype a) line second = cast_to (integer_in (shape_of facts.structs ctype)) a
node_lowered facts known (node.Call name all) line second = call_named facts line name all
node_lowered facts known (node.Index a b) line second = indexed (elements_in a.shape) second a b
node_lowered facts known (node.Member a name) line second = selected (member_in a.shape name) a
node_lowered facts known (node.Paren a) line second = a
node_lowered facts known _ line second = senseless

-- the code of an expression, where these names are known
unfoldable pub lowered : Facts → List Bound → Expr → Lowered
lowered facts known = fold-Expr (ℕ → ℕ → Lowered) Lowered (node_lowered facts known) (λ e. e.node e.line e.second)
