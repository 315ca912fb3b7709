-- The type of each expression (C11 6.5, as far as the profile goes).
use Rattle.std.specs.Prelude.{ℕ, List, [], ◌∷◌, map, Bool, true, false, ◌||◌, ◌&&◌, not, ◌==◌, nat_le, ℤ, pos, ◌-ℤ◌, Result, Ok, Err, Option, Some, None, option_map, is_some, if◌then◌else◌, bytes_eq, codes}
use denote.Enum.Bare.{sameb}
use Rattle.cl_tree.specs.contracts.kinds.IntKind.{the_type}
use Rattle.cl_tree.specs.declared.kinds.IntKind.{IntKind}
use Rattle.cl_tree.specs.declared.kinds.IntKind.TheVariants as int_kind
use Rattle.cl_tree.specs.declared.kinds.IntKind.TheVariants.{I8, I32, U32, ULong, LLong, ULLong}
use Rattle.cl_tree.specs.declared.kinds.UnOp.{UnOp}
use Rattle.cl_tree.specs.declared.kinds.UnOp.TheVariants as unary
use Rattle.cl_tree.specs.declared.kinds.BinOp.{BinOp}
use Rattle.cl_tree.specs.declared.kinds.BinOp.TheVariants as binary
use Rattle.cl_tree.specs.declared.kinds.TrapCause.{TrapCause}
use Rattle.cl_tree.specs.declared.tree.CType.{CType, CType-F, fold-CType, out-CType}
use Rattle.cl_tree.specs.declared.tree.CType.TheOpen as ctype
use Rattle.cl_tree.specs.declared.tree.CType.TheVariants as made
use Rattle.cl_tree.specs.declared.tree.Expr.{Expr, fold-Expr}
use Rattle.cl_tree.specs.declared.tree.Node.{Node, Node-F, out-Node}
use Rattle.cl_tree.specs.declared.tree.Node.TheOpen as node
use Rattle.cl_tree.specs.Arithmetic.{value, apply, is_shift, is_zero, truth, promoted, common}
use Rattle.cl_tree.specs.Words.{Word}
use Rattle.cl_typing.specs.declared.constants.Constant.{Constant}
use Rattle.cl_typing.specs.declared.format.Want.{Want}
use Rattle.cl_typing.specs.declared.format.Want.TheVariants.{Int, Long, LongLong}
use Rattle.cl_typing.specs.declared.format.Part.{Part}
use Rattle.cl_typing.specs.declared.format.Part.TheVariants.{Text, Percent, OneL, TwoL}
use Rattle.cl_typing.specs.declared.format.Read.{Read}
use Rattle.cl_typing.specs.declared.format.Read.TheVariants.{On, Takes, Wrong}
use Rattle.cl_typing.specs.Scope.{Field, Entry, variable, function, Env, meaning, members_of}

abbrev pub same_kind : IntKind → IntKind → Bool
same_kind = sameb the_type

-- ---- types

-- One level of a type against another type.
abbrev pub same_level : CType-F (CType → Bool) → CType-F CType → Bool
same_level ctype.Void ctype.Void = true
same_level (ctype.Integer a) (ctype.Integer b) = same_kind a b
same_level (ctype.Struct a) (ctype.Struct b) = bytes_eq a b
same_level (ctype.Array same n) (ctype.Array u m) = (n == m) && same u
same_level (ctype.Pointer same) (ctype.Pointer u) = same u
same_level ctype.Floating ctype.Floating = true
same_level _ _ = false

-- the same type
unfoldable pub same_type : CType → CType → Bool
same_type = fold-CType (CType → Bool) (λ t u. same_level t (out-CType u))

-- What a variable, a member or a parameter may be: an integer, a struct, or an array of them with a size of at least 1.
abbrev pub object_step : CType-F Bool → Bool
object_step (ctype.Integer kind) = true
object_step (ctype.Struct tag) = true
object_step (ctype.Array t n) = nat_le 1 n && t
object_step _ = false

unfoldable pub is_object_type : CType → Bool
is_object_type = fold-CType Bool object_step

-- A result is an integer, a struct or `void`.
abbrev pub result_level : {A : Type 0} → CType-F A → Bool
result_level (ctype.Integer kind) = true
result_level (ctype.Struct tag) = true
result_level ctype.Void = true
result_level _ = false

unfoldable pub is_result_type : CType → Bool
is_result_type t = result_level (out-CType t)

abbrev pub void_level : {A : Type 0} → CType-F A → Bool
void_level ctype.Void = true
void_level _ = false

unfoldable pub is_void : CType → Bool
is_void t = void_level (out-CType t)

abbrev pub array_level : {A : Type 0} → CType-F A → Bool
array_level (ctype.Array t n) = true
array_level _ = false

unfoldable pub is_array : CType → Bool
is_array t = array_level (out-CType t)

-- the kind of an integer type
abbrev pub kind_level : {A : Type 0} → CType-F A → Option IntKind
kind_level (ctype.Integer kind) = Some kind
kind_level _ = None

unfoldable pub kind_of : CType → Option IntKind
kind_of t = kind_level (out-CType t)

-- the type of an array's elements
abbrev pub element_level : CType-F CType → Option CType
element_level (ctype.Array t n) = Some t
element_level _ = None

unfoldable pub element_of : CType → Option CType
element_of t = element_level (out-CType t)

-- the type of a member of a struct
unfoldable pub member_type : Word → List Field → Option CType
member_type name [] = None
member_type name (d ∷ ds) = if bytes_eq d.name name then Some d.ctype else member_type name ds

abbrev pub among_members : Word → Option (List Field) → Option CType
among_members name None = None
among_members name (Some members) = member_type name members

abbrev pub member_level : {A : Type 0} → Env → Word → CType-F A → Option CType
member_level tags name (ctype.Struct tag) = among_members name (members_of tags tag)
member_level tags name _ = None

unfoldable pub member_of : Env → Word → CType → Option CType
member_of tags name t = member_level tags name (out-CType t)

-- ---- expressions

-- What is to be known of an expression. It has no type where a rule fails in it. A place is a variable, or an element
-- or a member of a place.
pub record Judged : Type 0 where
  pub ctype : Option CType
  pub is_place : Bool

abbrev pub given : {A B : Type 0} → Option A → (A → Option B) → Option B
given None f = None
given (Some x) f = f x

abbrev pub value_of : Option CType → Judged
value_of t = record { ctype = t; is_place = false }

abbrev pub integer : IntKind → CType
integer kind = made.Integer kind

-- the kind of an operand, which is an integer
unfoldable pub operand : Judged → Option IntKind
operand j = given j.ctype kind_of

-- the type of what an operator makes of a kind
abbrev pub made_of : (IntKind → Option IntKind) → Option IntKind → Judged
made_of f None = value_of None
made_of f (Some kind) = value_of (option_map integer (f kind))

unfoldable pub unary_kind : UnOp → IntKind → Option IntKind
unary_kind unary.Minus kind = Some (promoted kind)
unary_kind unary.Plus kind = Some (promoted kind)
unary_kind unary.Flip kind = Some (promoted kind)
unary_kind unary.Not kind = Some I32
unary_kind unary.Star kind = None
unary_kind unary.Amp kind = None

-- `||`, `&&` and comparisons give `int`, shifts the promoted left operand, the others the common kind
unfoldable pub binary_kind : BinOp → IntKind → IntKind → IntKind
binary_kind binary.Or a b = I32
binary_kind binary.And a b = I32
binary_kind binary.Equal a b = I32
binary_kind binary.Unequal a b = I32
binary_kind binary.Less a b = I32
binary_kind binary.Greater a b = I32
binary_kind binary.AtMost a b = I32
binary_kind binary.AtLeast a b = I32
binary_kind binary.Left a b = promoted a
binary_kind binary.Right a b = promoted a
binary_kind _ a b = common a b

-- both operands are integers
abbrev pub of_two : (IntKind → IntKind → IntKind) → Option IntKind → Option IntKind → Judged
of_two f (Some a) (Some b) = value_of (Some (integer (f a b)))
of_two f _ _ = value_of None

abbrev pub of_three : Option IntKind → Option IntKind → Option IntKind → Judged
of_three (Some c) (Some a) (Some b) = value_of (Some (integer (common a b)))
of_three _ _ _ = value_of None

abbrev pub cast_to : CType → Option IntKind → Option IntKind → Judged
cast_to t (Some to) (Some kind) = value_of (Some t)
cast_to t _ _ = value_of None

abbrev pub of_name : Option Entry → Judged
of_name (Some (variable t)) = record { ctype = Some t; is_place = true }
of_name _ = value_of None

-- What a store, an initialiser, an argument or a result takes: an integer for an integer, or the same struct.
abbrev pub takes_level : {A B : Type 0} → CType-F A → CType-F B → Bool
takes_level (ctype.Integer a) (ctype.Integer b) = true
takes_level (ctype.Struct a) (ctype.Struct b) = bytes_eq a b
takes_level _ _ = false

abbrev pub takes_type : CType → Option CType → Bool
takes_type t None = false
takes_type t (Some u) = takes_level (out-CType t) (out-CType u)

unfoldable pub takes : CType → Judged → Bool
takes t j = takes_type t j.ctype

-- What a place takes; an array takes nothing.
abbrev pub type_takes : Option CType → Judged → Bool
type_takes None j = false
type_takes (Some t) j = takes t j

abbrev pub place_takes : Judged → Judged → Bool
place_takes place j = type_takes place.ctype j

-- An array argument is a place of exactly the parameter's type.
abbrev pub is_of_type : CType → Option CType → Bool
is_of_type t None = false
is_of_type t (Some u) = same_type t u

unfoldable pub argument_fits : CType → Judged → Bool
argument_fits t j = if is_array t then (j.is_place && is_of_type t j.ctype) else takes t j

-- as many arguments as parameters, each of which fits
unfoldable pub arguments_fit : List CType → List Judged → Bool
arguments_fit [] [] = true
arguments_fit (t ∷ ts) (j ∷ js) = argument_fits t j && arguments_fit ts js
arguments_fit _ _ = false

-- the parameters of what is called; `getchar` has none
abbrev pub params_in : Option Entry → List CType
params_in (Some (function result params)) = params
params_in _ = []

abbrev pub of_result : Entry → Judged
of_result (function result params) = value_of (Some result)
of_result _ = value_of None

-- A call of a function of the program, or of `getchar`. `main` isn't called.
abbrev pub of_found : Word → Bool → Option Entry → Judged
of_found name fits (Some entry) = if not (bytes_eq name (codes "main")) && fits then of_result entry else value_of None
of_found name fits None = value_of (if bytes_eq name (codes "getchar") && fits then Some (integer I32) else None)

abbrev pub of_call : Word → List Judged → Option Entry → Judged
of_call name arguments entry = of_found name (arguments_fit (params_in entry) arguments) entry

abbrev pub of_member : Env → Word → Judged → Judged
of_member tags name a = record { ctype = given a.ctype (member_of tags name); is_place = a.is_place }

abbrev pub of_index : Judged → Option IntKind → Judged
of_index a None = value_of None
of_index a (Some kind) = record { ctype = given a.ctype element_of; is_place = a.is_place }

-- One level of an expression. A string has no type of its own.
abbrev pub node_judged : Env → Env → Node-F Judged Judged → Judged
node_judged tags env (node.Number n kind) = value_of (Some (integer kind))
node_judged tags env (node.Letter byte) = value_of (Some (integer I32))
node_judged tags env (node.Variable name) = of_name (meaning env name)
node_judged tags env (node.Unary op e) = made_of (unary_kind op) (operand e)
node_judged tags env (node.Binary op a b) = of_two (binary_kind op) (operand a) (operand b)
node_judged tags env (node.Choice c a b) = of_three (operand c) (operand a) (operand b)
node_judged tags env (node.Cast t e) = cast_to t (kind_of t) (operand e)
node_judged tags env (node.Call name arguments) = of_call name arguments (meaning env name)
node_judged tags env (node.Index a i) = of_index a (operand i)
node_judged tags env (node.Member a name) = of_member tags name a
node_judged tags env (node.Paren e) = e
node_judged tags env _ = value_of None

unfoldable pub judged : Env → Env → Expr → Judged
judged tags env = fold-Expr Judged Judged (node_judged tags env) (λ e. e.node)

-- an operand, a condition or an index
unfoldable pub is_integer : Judged → Bool
is_integer j = is_some (operand j)

-- ---- the three known functions

-- what a conversion takes after promotion
abbrev pub wants_kind : Want → IntKind → Bool
wants_kind Int I32 = true
wants_kind Int U32 = true
wants_kind Long int_kind.Long = true
wants_kind Long ULong = true
wants_kind LongLong LLong = true
wants_kind LongLong ULLong = true
wants_kind _ _ = false

-- `d`, `u` or `x`
abbrev pub is_number_letter : ℕ → Bool
is_number_letter b = (b == 100) || ((b == 117) || (b == 120))

-- What a byte does behind a part of a format: `%d %u %x %c`, these of numbers with `l` or `ll`, and `%%`. A format has
-- no zero byte.
unfoldable pub read_byte : Part → ℕ → Read
read_byte Text b = if b == 0 then Wrong else (if b == 37 then On Percent else On Text)
read_byte Percent b =
    if b == 37 then On Text
    else (if is_number_letter b || (b == 99) then Takes Int else (if b == 108 then On OneL else Wrong))
read_byte OneL b = if is_number_letter b then Takes Long else (if b == 108 then On TwoL else Wrong)
read_byte TwoL b = if is_number_letter b then Takes LongLong else Wrong

abbrev pub and_then_wants : Want → Option (List Want) → Option (List Want)
and_then_wants w None = None
and_then_wants w (Some ws) = Some (w ∷ ws)

abbrev pub after_read : Read → (Part → Option (List Want)) → Option (List Want)
after_read (On part) rest = rest part
after_read (Takes w) rest = and_then_wants w (rest Text)
after_read Wrong rest = None

-- what a format that ends behind a part still takes
abbrev pub wants_at_end : Part → Option (List Want)
wants_at_end Text = Some []
wants_at_end _ = None

-- What the conversions of a format take, in order, if it is one.
unfoldable pub wants_of : Part → List ℕ → Option (List Want)
wants_of part [] = wants_at_end part
wants_of part (b ∷ bs) = after_read (read_byte part b) (λ next. wants_of next bs)

unfoldable pub wants_operand : Want → Option IntKind → Bool
wants_operand w None = false
wants_operand w (Some kind) = wants_kind w (promoted kind)

unfoldable pub all_wanted : List Want → List Judged → Bool
all_wanted [] [] = true
all_wanted (w ∷ ws) (j ∷ js) = wants_operand w (operand j) && all_wanted ws js
all_wanted _ _ = false

unfoldable pub wanted : Option (List Want) → List Judged → Bool
wanted None js = false
wanted (Some ws) js = all_wanted ws js

-- The format is the string itself.
abbrev pub printf_node : Node-F Node Expr → List Judged → Bool
printf_node (node.Text bytes) js = wanted (wants_of Text bytes) js
printf_node _ js = false

abbrev pub printf_right : Env → Env → List Expr → Bool
printf_right tags env [] = false
printf_right tags env (e ∷ es) = printf_node (out-Node e.node) (map (judged tags env) es)

abbrev pub putchar_right : List Judged → Bool
putchar_right (j ∷ []) = is_integer j
putchar_right _ = false

-- A call as a statement. `printf` and `putchar` are statements alone.
abbrev pub call_node : Env → Env → Bool → Node-F Node Expr → Bool
call_node tags env typed (node.Call name arguments) =
    if bytes_eq name (codes "printf") then printf_right tags env arguments
    else (if bytes_eq name (codes "putchar") then putchar_right (map (judged tags env) arguments) else typed)
call_node tags env typed _ = false

unfoldable pub call_right : Env → Env → Expr → Bool
call_right tags env e = call_node tags env (is_some (judged tags env e).ctype) (out-Node e.node)

-- ---- constants

-- A constant expression holds literals, operators and casts alone; its kind, and its value, None where it traps.
abbrev pub constant_of : Bool → IntKind → Option ℤ → Constant
constant_of is_constant kind number = record { is_constant = is_constant; kind = kind; number = number }

abbrev pub no_constant : Constant
no_constant = constant_of false I32 None

abbrev pub settles : Result ℤ TrapCause → Option ℤ
settles (Ok n) = Some n
settles (Err cause) = None

-- 1 for a number other than 0
abbrev pub truth_of : ℤ → ℤ
truth_of n = truth (not (is_zero n))

-- The value of an operator on a number of the promoted kind. All bits of -1 are 1, and `~` turns each bit over.
unfoldable pub unary_value : UnOp → IntKind → ℤ → Option ℤ
unary_value unary.Minus kind n = settles (apply binary.Sub kind (pos 0) n)
unary_value unary.Plus kind n = Some n
unary_value unary.Flip kind n = settles (apply binary.Xor kind n (value kind (pos 0 -ℤ pos 1)))
unary_value unary.Not kind n = Some (truth (is_zero n))
unary_value _ kind n = None

-- the kind in which an operator works: a shift in the promoted left operand's
unfoldable pub working_kind : BinOp → IntKind → IntKind → IntKind
working_kind binary.Left a b = promoted a
working_kind binary.Right a b = promoted a
working_kind _ a b = common a b

-- the right operand as the operator takes it
unfoldable pub right_value : BinOp → IntKind → ℤ → ℤ
right_value op kind n = if is_shift op then n else value kind n

abbrev pub applied : BinOp → IntKind → Option ℤ → Option ℤ → Option ℤ
applied op kind (Some x) (Some y) = settles (apply op kind (value kind x) (right_value op kind y))
applied op kind _ _ = None

-- `||` and `&&` evaluate the right operand where they need it
abbrev pub logical : Bool → ℤ → Option ℤ → Option ℤ
logical true x y = Some (truth_of x)
logical false x y = option_map truth_of y

unfoldable pub binary_value : BinOp → IntKind → Option ℤ → Option ℤ → Option ℤ
binary_value binary.Or kind (Some x) y = logical (not (is_zero x)) x y
binary_value binary.And kind (Some x) y = logical (is_zero x) x y
binary_value binary.Or kind None y = None
binary_value binary.And kind None y = None
binary_value op kind x y = applied op kind x y

abbrev pub choice_value : IntKind → Option ℤ → Option ℤ → Option ℤ → Option ℤ
choice_value kind None a b = None
choice_value kind (Some c) a b = option_map (value kind) (if is_zero c then b else a)

abbrev pub cast_constant : Option IntKind → Constant → Constant
cast_constant None e = no_constant
cast_constant (Some kind) e = constant_of e.is_constant kind (option_map (value kind) e.number)

unfoldable pub unary_result : UnOp → IntKind → IntKind
unary_result unary.Not kind = I32
unary_result _ kind = promoted kind

abbrev pub unary_constant : UnOp → Constant → Constant
unary_constant op e = constant_of e.is_constant (unary_result op e.kind)
    (given e.number (λ n. unary_value op (promoted e.kind) (value (promoted e.kind) n)))

abbrev pub binary_constant : BinOp → Constant → Constant → Constant
binary_constant op a b = constant_of (a.is_constant && b.is_constant) (binary_kind op a.kind b.kind)
    (binary_value op (working_kind op a.kind b.kind) a.number b.number)

abbrev pub choice_constant : Constant → Constant → Constant → Constant
choice_constant c a b = constant_of (c.is_constant && (a.is_constant && b.is_constant)) (common a.kind b.kind)
    (choice_value (common a.kind b.kind) c.number a.number b.number)

abbrev pub node_constant : Node-F Constant Constant → Constant
node_constant (node.Number n kind) = constant_of true kind (Some (value kind (pos n)))
node_constant (node.Letter byte) = constant_of true I32 (Some (value I8 (pos byte)))
node_constant (node.Unary op e) = unary_constant op e
node_constant (node.Binary op a b) = binary_constant op a b
node_constant (node.Choice c a b) = choice_constant c a b
node_constant (node.Cast t e) = cast_constant (kind_of t) e
node_constant (node.Paren e) = e
node_constant _ = no_constant

unfoldable pub constant : Expr → Constant
constant = fold-Expr Constant Constant node_constant (λ e. e.node)

-- it holds literals, operators and casts alone, and doesn't trap
unfoldable pub is_settled : Expr → Bool
is_settled e = (constant e).is_constant && is_some (constant e).number
