-- Small trees, each on one line.
use Rattle.std.specs.Prelude.{ℕ, [], ◌∷◌, Option, Some, None}
use Rattle.cl_tree.specs.declared.kinds.IntKind.TheVariants.{I32}
use Rattle.cl_tree.specs.declared.kinds.BinOp.TheVariants.{Sub}
use Rattle.cl_tree.specs.declared.token.Mark.TheVariants.{Minus}
use Rattle.cl_tree.specs.declared.grammar.Sign.TheVariants as sign
use Rattle.cl_tree.specs.declared.tree.Expr.{Expr}
use Rattle.cl_tree.specs.declared.tree.Node.{Node}
use Rattle.cl_tree.specs.declared.tree.Node.TheVariants as node
use Rattle.cl_tree.specs.declared.tree.Stmt.{Stmt}
use Rattle.cl_tree.specs.declared.tree.Act.TheVariants as act
use Rattle.cl_tree.specs.Spelling.{Spelling, put_on, mark_at}

abbrev pub expr_on : ℕ → Node → Expr
expr_on line n = record { line = line; second = line; node = n }

abbrev pub number : ℕ → ℕ → Expr
number line value = expr_on line (node.Number value I32)

abbrev pub difference : ℕ → Expr → Expr → Expr
difference line a b = expr_on line (node.Binary Sub a b)

-- 1 - (2 - 3), without the parentheses
abbrev pub right_first : ℕ → Expr
right_first line = difference line (number line 1) (difference line (number line 2) (number line 3))

-- (1 - 2) - 3
abbrev pub left_first : ℕ → Expr
left_first line = difference line (difference line (number line 1) (number line 2)) (number line 3)

-- 1 - 2, with any lines
abbrev pub on_lines : ℕ → ℕ → ℕ → ℕ → ℕ → ℕ → Expr
on_lines a b c d e f = record {
  line = a;
  second = b;
  node = node.Binary Sub (record { line = c; second = d; node = node.Number 1 I32 }) (record { line = e; second = f; node = node.Number 2 I32 });
}

-- a terminal of one node, which has the line twice
abbrev pub literal : ℕ → ℕ → Spelling → Spelling
literal line value rest = put_on (line ∷ line ∷ []) (sign.Integer value I32) rest

-- 1 - 2 - 3; the first terminal has the lines of the two differences too
abbrev pub in_a_row : ℕ → Spelling
in_a_row line = put_on (line ∷ line ∷ line ∷ line ∷ []) (sign.Integer 1 I32) (mark_at line Minus (literal line 2 (mark_at line Minus (literal line 3 []))))

abbrev pub if_on : ℕ → Expr → Stmt → Option Stmt → Stmt
if_on line c a b = record { line = line; second = line; node = act.If c a b }

-- if (c) if (d) a else b, with the `else` taken by the first `if`
abbrev pub dangling_else : ℕ → Expr → Expr → Stmt → Stmt → Stmt
dangling_else line c d a b = if_on line c (if_on line d a None) (Some b)
