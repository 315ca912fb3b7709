-- The values of expressions (C11 6.5): operands from left to right, each before its operator.
use Rattle.std.specs.Prelude.{ℕ, suc, ℤ, pos, List, [], ◌∷◌, Option, Some, None, option_map, slice_index_or, bytes_eq, if◌then◌else◌}
use Rattle.cl_tree.specs.declared.kinds.IntKind.TheVariants.{I32}
use Rattle.cl_tree.specs.declared.kinds.BinOp.{BinOp}
use Rattle.cl_tree.specs.declared.kinds.BinOp.TheVariants.{Add, Sub, Mul}
use Rattle.cl_tree.specs.declared.tree.Expr.{Expr, fold-Expr}
use Rattle.cl_tree.specs.declared.tree.Node.{Node-F}
use Rattle.cl_tree.specs.declared.tree.Node.TheOpen as node
use Rattle.cl_tree.specs.Arithmetic.{value, apply}
use Rattle.cl_tree.specs.Words.{Word}
use Rattle.cl_mean.specs.declared.checked.ObjFact.{ObjFact}
use Rattle.cl_run.specs.declared.state.Context.{Context}
use Rattle.cl_run.specs.FormState.{Step, pure, lifted, no_object, ◌>>=◌}

-- what names mean: the objects of static duration by their place, and what a call of a function does, at a line
pub record Scope : Type 0 where
  pub objects : List ObjFact
  pub call : Context → ℕ → Word → Step ℤ

-- the place of the first object of a name
abbrev pub place_of : List ObjFact → Word → Option ℕ
place_of [] name = None
place_of (o ∷ os) name = if bytes_eq o.name name then Some 0 else option_map (λ n. suc n) (place_of os name)

-- what a form has that no accepted source holds yet: nothing is said of it
abbrev pub unsettled : Step ℤ
unsettled = pure (pos 0)

-- the number of an object
abbrev pub fetched : Option ℕ → Step ℤ
fetched None = unsettled
fetched (Some place) = λ state. pure (slice_index_or state.objects place no_object).number state

-- an operator on two operands, which are `int`; a trap names the operator's line
abbrev pub operated : Context → BinOp → ℕ → Step ℤ → Step ℤ → Step ℤ
operated context op line a b = a >>= (λ x. b >>= (λ y. lifted context line (apply op I32 (value I32 x) (value I32 y))))

abbrev pub binary : Context → BinOp → ℕ → Step ℤ → Step ℤ → Step ℤ
binary context Add line a b = operated context Add line a b
binary context Sub line a b = operated context Sub line a b
binary context Mul line a b = operated context Mul line a b
binary context op line a b = unsettled

-- a call without arguments; others come with their stage
abbrev pub called : Scope → Context → ℕ → Word → List (Step ℤ) → Step ℤ
called scope context line name [] = scope.call context line name
called scope context line name (a ∷ rest) = unsettled

-- a node's value waits for the two lines of its expression
abbrev pub node_value : Scope → Context → Node-F (ℕ → ℕ → Step ℤ) (Step ℤ) → ℕ → ℕ → Step ℤ
node_value scope context (node.Number n kind) line second = pure (value kind (pos n))
node_value scope context (node.Variable name) line second = fetched (place_of scope.objects name)
node_value scope context (node.Paren e) line second = e
node_value scope context (node.Binary op a b) line second = binary context op second a b
node_value scope context (node.Call name arguments) line second = called scope context line name arguments
node_value scope context _ line second = unsettled

unfoldable pub value_of : Scope → Context → Expr → Step ℤ
value_of scope context = fold-Expr (ℕ → ℕ → Step ℤ) (Step ℤ) (node_value scope context) (λ e. e.node e.line e.second)
