-- The values of expressions (C11 6.5): operands from left to right, each before its operator.
use Rattle.std.specs.Prelude.{ℕ, Bool, true, false, ◌&&◌, not, ℤ, pos, List, [], ◌∷◌, Option, Some, None, if◌then◌else◌, bytes_eq, codes, int_le, int_lt, unsigned_abs}
use Rattle.cl_tree.specs.declared.kinds.IntKind.{IntKind}
use Rattle.cl_tree.specs.declared.kinds.IntKind.TheVariants.{I32}
use Rattle.cl_tree.specs.declared.kinds.UnOp.{UnOp}
use Rattle.cl_tree.specs.declared.kinds.UnOp.TheVariants.{Not, Star, Amp}
use Rattle.cl_tree.specs.declared.kinds.BinOp.{BinOp}
use Rattle.cl_tree.specs.declared.kinds.BinOp.TheVariants.{Or, And, Equal, Unequal, Less, Greater, AtMost, AtLeast}
use Rattle.cl_tree.specs.declared.kinds.TrapCause.TheVariants.{Index}
use Rattle.cl_tree.specs.declared.tree.Expr.{Expr, fold-Expr}
use Rattle.cl_tree.specs.declared.tree.Node.{Node-F}
use Rattle.cl_tree.specs.declared.tree.Node.TheOpen as node
use Rattle.cl_tree.specs.Arithmetic.{value, apply, apply_one, letter_value, truth, is_zero, is_shift, promoted, common}
use Rattle.cl_tree.specs.Words.{Word}
use Rattle.cl_mean.specs.declared.labels.Mention.{Mention}
use Rattle.cl_mean.specs.declared.labels.Mention.TheVariants.{Level}
use Rattle.cl_mean.specs.Value.{Labelled, bare, carries_too, ◌∪◌, Value, number, each, part, is_part}
use Rattle.cl_mean.specs.Shape.{Shape, integer, struct, array, is_type, shape_of, kind_in, part_in, size_in, member_index}
use Rattle.cl_mean.specs.State.{Place, get_byte, deeper}
use Rattle.cl_mean.specs.Source.{Root, Binding, Env, binding_of, Parameter, Definition, Source, function_named}
use Rattle.cl_mean.specs.Course.{Computation, meaningless, pure, halted, trapped, lifted, the_number, within, fetched, ◌>>=◌}

-- ---- what calls are given, and what they do

-- a place that an expression names: where it lies, the labels of the indexes on the way, and how its root takes labels
pub record Spot : Type 0 where
  pub place : Place
  pub labels : List Mention
  pub root : Root

-- an argument: a value, or the caller's array
pub data Argument : Type 0 where
  given : Value → Argument
  lent : Spot → Argument

-- what a call does: the function that makes it, the line, the function that is called, the arguments
abbrev pub Calls : Type 0
Calls = Definition → ℕ → Definition → List Argument → Computation Value

-- where an expression stands: the source, what calls do, and the function
pub record Scope : Type 0 where
  pub source : Source
  pub calls : Calls
  pub here : Definition

-- ---- what an expression means

-- its type, from the names alone; its place, where a variable is at its root; its value
pub record Meaning : Type 0 where
  pub shape : Shape
  pub spot : Option (Computation Spot)
  pub value : Computation Value

-- an integer that has no place
abbrev pub computed : IntKind → Computation Labelled → Meaning
computed kind x = record { shape = integer kind; spot = None; value = x >>= λ n. pure (number n) }

-- a read carries the labels of the integers read and of the indexes
abbrev pub read_at : Spot → Computation Value
read_at s = fetched s.place >>= λ v. pure (each (carries_too s.labels) v)

abbrev pub placed : Shape → Computation Spot → Meaning
placed shape spot = record { shape = shape; spot = Some spot; value = spot >>= read_at }

-- no accepted source wants a place of what has none
abbrev pub the_spot : Option (Computation Spot) → Computation Spot
the_spot (Some s) = s
the_spot None = halted meaningless

abbrev pub spot_of : Meaning → Computation Spot
spot_of m = the_spot m.spot

-- ---- integers

abbrev pub kind_of : Meaning → IntKind
kind_of m = kind_in m.shape

abbrev pub integer_of : Meaning → Computation Labelled
integer_of m = m.value >>= the_number

abbrev pub as_kind : IntKind → Labelled → Labelled
as_kind kind x = record { number = value kind x.number; labels = x.labels }

-- an operand, converted
abbrev pub operand : IntKind → Meaning → Computation Labelled
operand kind m = integer_of m >>= λ x. pure (as_kind kind x)

-- a value in a type: an integer is converted to its kind, a struct is of that type already, and there are no others
abbrev pub in_type : Shape → Meaning → Computation Value
in_type (integer kind) m = operand kind m >>= λ x. pure (number x)
in_type (struct ms) m = if is_type (struct ms) m.shape then m.value else halted meaningless
in_type _ m = halted meaningless

abbrev pub is_true : Labelled → Bool
is_true x = not (is_zero x.number)

-- what an operator makes of two converted operands carries the labels of both
abbrev pub applied : ℕ → ℕ → BinOp → IntKind → Labelled → Labelled → Computation Labelled
applied level line op kind x y = lifted level line (apply op kind x.number y.number) >>= λ n. pure (record { number = n; labels = x.labels ∪ y.labels })

-- the kind in which an operator works: of a shift it is that of the left operand
unfoldable pub working_kind : BinOp → IntKind → IntKind → IntKind
working_kind op a b = if is_shift op then promoted a else common a b

-- the kind to which the right operand is converted
unfoldable pub right_kind : BinOp → IntKind → IntKind → IntKind
right_kind op a b = if is_shift op then promoted b else common a b

-- what an operator gives: a comparison gives an `int`
unfoldable pub given_kind : BinOp → IntKind → IntKind
given_kind Or kind = I32
given_kind And kind = I32
given_kind Equal kind = I32
given_kind Unequal kind = I32
given_kind Less kind = I32
given_kind Greater kind = I32
given_kind AtMost kind = I32
given_kind AtLeast kind = I32
given_kind _ kind = kind

-- `&&` and `||` evaluate the right operand only where the left one doesn't decide
abbrev pub decided : Bool → Meaning → Labelled → Computation Labelled
decided decides b x =
    if (if is_true x then decides else not decides) then pure (record { number = truth decides; labels = x.labels })
    else (integer_of b >>= λ y. pure (record { number = truth (is_true y); labels = x.labels ∪ y.labels }))

abbrev pub logical : Bool → Meaning → Meaning → Computation Labelled
logical decides a b = integer_of a >>= decided decides b

-- the operators that evaluate both operands
abbrev pub worked : ℕ → BinOp → ℕ → Meaning → Meaning → Meaning
worked level op line a b =
    computed (given_kind op (working_kind op (kind_of a) (kind_of b)))
    (operand (working_kind op (kind_of a) (kind_of b)) a >>= λ x. operand (right_kind op (kind_of a) (kind_of b)) b >>= λ y. applied level line op (working_kind op (kind_of a) (kind_of b)) x y)

abbrev pub binary : ℕ → BinOp → ℕ → Meaning → Meaning → Meaning
binary level Or line a b = computed I32 (logical true a b)
binary level And line a b = computed I32 (logical false a b)
binary level op line a b = worked level op line a b

-- a form that no accepted source has
abbrev pub senseless : Meaning
senseless = computed I32 (halted meaningless)

-- what an operator of one operand gives: `!` gives an `int`
abbrev pub kind_by : UnOp → IntKind → IntKind
kind_by Not kind = I32
kind_by _ kind = kind

-- an operator of one operand, which is promoted; its value carries the operand's labels
abbrev pub worked_one : ℕ → UnOp → ℕ → Meaning → Meaning
worked_one level op line a =
    computed (kind_by op (promoted (kind_of a)))
    (operand (promoted (kind_of a)) a >>= λ x. lifted level line (apply_one op (promoted (kind_of a)) x.number) >>= λ n. pure (record { number = n; labels = x.labels }))

abbrev pub unary : ℕ → UnOp → ℕ → Meaning → Meaning
unary level Star line a = senseless
unary level Amp line a = senseless
unary level op line a = worked_one level op line a

-- a cast to an integer type; there is no other
abbrev pub cast_to : Shape → Meaning → Meaning
cast_to (integer kind) a = computed kind (operand kind a)
cast_to _ a = senseless

-- `?:` evaluates one of its two last operands, and carries the labels of the condition too
abbrev pub choice : Meaning → Meaning → Meaning → Meaning
choice test a b =
    computed (common (kind_of a) (kind_of b))
    (integer_of test >>= λ x. operand (common (kind_of a) (kind_of b)) (if is_true x then a else b) >>= λ y. pure (record { number = y.number; labels = x.labels ∪ y.labels }))

-- ---- elements and members

unfoldable pub is_inside : ℕ → ℤ → Bool
is_inside size n = int_le (pos 0) n && int_lt n (pos size)

-- an index that is none of the array's is a trap
abbrev pub index_of : ℕ → ℕ → ℕ → Meaning → Computation Labelled
index_of level line size m = integer_of m >>= λ x. if is_inside size x.number then pure x else trapped level Index line

-- a part of a place; `labels` are those of the index
abbrev pub spot_in : Spot → ℕ → List Mention → Spot
spot_in s i labels = record { place = deeper s.place i; labels = s.labels ∪ labels; root = s.root }

-- a part of a value that has no place
abbrev pub picked : Value → ℕ → Computation Value
picked v i = if is_part v i then pure (part v i) else halted meaningless

-- Where the array or the struct has a place, its element or member is a part of that place: it is read behind the index.
abbrev pub element_of : ℕ → ℕ → Meaning → Meaning → Option (Computation Spot) → Meaning
element_of level line a b (Some spot) =
    placed (part_in a.shape 0) (spot >>= λ s. index_of level line (size_in a.shape) b >>= λ i. pure (spot_in s (unsigned_abs i.number) i.labels))
element_of level line a b None = record {
  shape = part_in a.shape 0;
  spot = None;
  value =
      a.value >>= λ v. index_of level line (size_in a.shape) b >>= λ i.
      picked v (unsigned_abs i.number) >>= λ w. pure (each (carries_too i.labels) w);
}

-- only an array is indexed
abbrev pub of_array : Shape → Meaning → Meaning
of_array (array element size) m = m
of_array _ m = senseless

abbrev pub indexed : ℕ → ℕ → Meaning → Meaning → Meaning
indexed level line a b = of_array a.shape (element_of level line a b a.spot)

abbrev pub member_of : Meaning → ℕ → Option (Computation Spot) → Meaning
member_of a i (Some spot) = placed (part_in a.shape i) (spot >>= λ s. pure (spot_in s i []))
member_of a i None = record { shape = part_in a.shape i; spot = None; value = a.value >>= λ v. picked v i }

-- only a struct has members
abbrev pub member_named : Shape → Meaning → Word → Meaning
member_named (struct ms) a name = member_of a (member_index ms name) a.spot
member_named _ a name = senseless

abbrev pub selected : Meaning → Word → Meaning
selected a name = member_named a.shape a name

abbrev pub root_spot : Binding → Spot
root_spot b = record { place = b.place; labels = b.labels; root = b.root }

abbrev pub variable : Binding → Meaning
variable b = placed b.shape (pure (root_spot b))

-- an accepted source uses known names alone
abbrev pub variable_of : Option Binding → Meaning
variable_of None = senseless
variable_of (Some b) = variable b

-- ---- calls

-- an array of the parameter's type is lent, anything else is given in that type
abbrev pub argument : Shape → Meaning → Computation Argument
argument (array element size) m =
    if is_type (array element size) m.shape then (spot_of m >>= λ s. pure (lent s)) else halted meaningless
argument shape m = in_type shape m >>= λ v. pure (given v)

-- in an accepted source there are as many as parameters
abbrev pub arguments : List Parameter → List Meaning → Computation (List Argument)
arguments [] [] = pure []
arguments [] (m ∷ ms) = halted meaningless
arguments (p ∷ ps) [] = halted meaningless
arguments (p ∷ ps) (m ∷ ms) = argument p.shape m >>= λ a. arguments ps ms >>= λ args. pure (a ∷ args)

abbrev pub call_of : Scope → ℕ → List Meaning → Option Definition → Meaning
call_of scope line ms None = senseless
call_of scope line ms (Some callee) = record {
  shape = callee.result;
  spot = None;
  value = arguments callee.params ms >>= λ args. scope.calls scope.here line callee args;
}

-- `getchar` gives the next byte of the level whose function calls it, -1 at the end, with the label of that level
abbrev pub next_byte : ℕ → Computation Labelled
next_byte level = within level 0 get_byte >>= λ n. pure (record { number = n; labels = Level level ∷ [] })

-- `getchar` reads the next byte, and takes no argument
abbrev pub reading : ℕ → List Meaning → Meaning
reading level [] = computed I32 (next_byte level)
reading level (m ∷ ms) = senseless

abbrev pub call_named : Scope → ℕ → Word → List Meaning → Meaning
call_named scope line name ms =
    if bytes_eq name (codes "getchar") then reading scope.here.level ms
    else call_of scope line ms (function_named scope.source.functions name)

-- ---- expressions

-- A node waits for the two lines of its expression.
abbrev pub node_meaning : Scope → Env → Node-F (ℕ → ℕ → Meaning) Meaning → ℕ → ℕ → Meaning
node_meaning scope env (node.Number n kind) line second = computed kind (pure (bare (value kind (pos n))))
node_meaning scope env (node.Letter byte) line second = computed I32 (pure (bare (letter_value byte)))
node_meaning scope env (node.Variable name) line second = variable_of (binding_of env name)
node_meaning scope env (node.Unary op a) line second = unary scope.here.level op line a
node_meaning scope env (node.Binary op a b) line second = binary scope.here.level op second a b
node_meaning scope env (node.Choice test a b) line second = choice test a b
node_meaning scope env (node.Cast ctype a) line second = cast_to (shape_of scope.source.structs ctype) a
node_meaning scope env (node.Call name all) line second = call_named scope line name all
node_meaning scope env (node.Index a b) line second = indexed scope.here.level second a b
node_meaning scope env (node.Member a name) line second = selected a name
node_meaning scope env (node.Paren a) line second = a
node_meaning scope env _ line second = senseless

-- what an expression means in a function, where these names are known
unfoldable pub meaning_of : Scope → Env → Expr → Meaning
meaning_of scope env = fold-Expr (ℕ → ℕ → Meaning) Meaning (node_meaning scope env) (λ e. e.node e.line e.second)
