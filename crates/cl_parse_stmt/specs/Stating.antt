-- The reader of statements on lists.
use Rattle.std.specs.Prelude.{ℕ, zero, suc, List, [], ◌∷◌, ◌++◌, length, Option, Some, None, Bool, true, false, if◌then◌else◌}
use Rattle.cl_tree.specs.declared.kinds.BinOp.TheVariants as binary
use Rattle.cl_tree.specs.declared.token.Mark.{Mark}
use Rattle.cl_tree.specs.declared.token.Mark.TheVariants as mark
use Rattle.cl_tree.specs.declared.grammar.Keyword.{Keyword}
use Rattle.cl_tree.specs.declared.grammar.Keyword.TheVariants as key
use Rattle.cl_tree.specs.declared.grammar.Sign.{Sign}
use Rattle.cl_tree.specs.declared.grammar.Sign.TheVariants as sign
use Rattle.cl_tree.specs.declared.tree.Expr.{Expr}
use Rattle.cl_tree.specs.declared.tree.Node.{Node, Node-F, out-Node}
use Rattle.cl_tree.specs.declared.tree.Node.TheOpen as node
use Rattle.cl_tree.specs.declared.tree.Stmt.{Stmt}
use Rattle.cl_tree.specs.declared.tree.Act.{Act}
use Rattle.cl_tree.specs.declared.tree.Act.TheVariants as made
use Rattle.cl_tree.specs.Statements.{is_call}
use Rattle.cl_parse_expr.specs.declared.cursor.Fixed.{Fixed}
use Rattle.cl_parse_expr.specs.declared.cursor.Fixed.TheVariants as fixed
use Rattle.cl_parse_expr.specs.Cursor.{◌>>=◌, Terminals, found, after, line_of}
use Rattle.cl_parse_expr.specs.Reading.{Reader, opening, close}
use Rattle.cl_parse_stmt.specs.declared.simple.Tail.{Tail}
use Rattle.cl_parse_stmt.specs.declared.simple.Tail.TheVariants as tail
use Rattle.cl_parse_stmt.specs.declared.stmt.Head.{Head}
use Rattle.cl_parse_stmt.specs.declared.stmt.Head.TheVariants as head
use Rattle.cl_parse_stmt.specs.Declaring.{InitReader, semicolon, close_brace, declaration_from}

abbrev pub StmtReader : Type 0
StmtReader = Terminals → Option (Stmt × Terminals)

abbrev pub stmt : ℕ → ℕ → Act → Stmt
stmt line second act = record { line = line; second = second; node = act }

-- ---- simple statements, without their `;`

-- what a terminal makes of the expression before it
abbrev pub mark_tail : Mark → Tail
mark_tail mark.Assign = tail.Assign None
mark_tail mark.PlusAssign = tail.Assign (Some binary.Add)
mark_tail mark.MinusAssign = tail.Assign (Some binary.Sub)
mark_tail mark.StarAssign = tail.Assign (Some binary.Mul)
mark_tail mark.SlashAssign = tail.Assign (Some binary.Div)
mark_tail mark.PercentAssign = tail.Assign (Some binary.Rem)
mark_tail mark.LeftAssign = tail.Assign (Some binary.Left)
mark_tail mark.RightAssign = tail.Assign (Some binary.Right)
mark_tail mark.AmpAssign = tail.Assign (Some binary.BitAnd)
mark_tail mark.BarAssign = tail.Assign (Some binary.BitOr)
mark_tail mark.CaretAssign = tail.Assign (Some binary.Xor)
mark_tail mark.PlusPlus = tail.Bump true
mark_tail mark.MinusMinus = tail.Bump false
mark_tail _ = tail.Nothing

abbrev pub tail_of : Sign → Tail
tail_of (sign.Mark m) = mark_tail m
tail_of _ = tail.Nothing

-- with the line of the terminal, and what follows it
unfoldable pub tail_at : Terminals → Tail × ℕ × Terminals
tail_at [] = (tail.Nothing, 0, [])
tail_at (t ∷ ts) = (tail_of t.what, t.line, ts)

-- no operator, no cast
abbrev pub unary_node : Node-F Node Expr → Bool
unary_node (node.Binary op a b) = false
unary_node (node.Choice c a b) = false
unary_node (node.Cast t e) = false
unary_node _ = true

unfoldable pub is_unary : Expr → Bool
is_unary e = unary_node (out-Node e.node)

unfoldable pub ended_by : Reader → Expr → Terminals → Tail → ℕ → Terminals → Option (Stmt × Terminals)
ended_by E a here tail.Nothing line next = if is_call a then Some (stmt a.line a.line (made.Call a), here) else None
ended_by E a here (tail.Assign op) line next = if is_unary a then (E 1 next >>= λ b. Some (stmt a.line line (made.Set op a b.0), b.1)) else None
ended_by E a here (tail.Bump up) line next = if is_unary a then Some (stmt a.line line (made.Bump up false a), next) else None

unfoldable pub from_place : Reader → Expr × Terminals → Option (Stmt × Terminals)
from_place E a = ended_by E a.0 a.1 (tail_at a.1).0 (tail_at a.1).1 (tail_at a.1).2

unfoldable pub bumped : Reader → Bool → ℕ → Terminals → Option (Stmt × Terminals)
bumped E up line ts = E 12 ts >>= λ a. if is_unary a.0 then Some (stmt line line (made.Bump up true a.0), a.1) else None

unfoldable pub simple_at : Reader → Terminals → Option (Stmt × Terminals)
simple_at E ts =
    found (after (fixed.Mark mark.PlusPlus) ts) (λ x. bumped E true x.0 x.1)
    (found (after (fixed.Mark mark.MinusMinus) ts) (λ x. bumped E false x.0 x.1)
    (E 12 ts >>= λ a. from_place E a))

-- ---- parts of statements

-- an expression in parentheses
unfoldable pub test_at : Reader → Terminals → Option (Expr × Terminals)
test_at E ts = after opening ts >>= λ o. E 1 o.1 >>= λ c. after close c.1 >>= λ d. Some (c.0, d.1)

-- a declaration as a statement, without its `;`
unfoldable pub declare_at : InitReader → Terminals → Option (Stmt × Terminals)
declare_at I ts =
    found (after (fixed.Key key.Static) ts) (λ x. declaration_from I true x.0 x.1 >>= λ d. Some (stmt x.0 x.0 (made.Declare d.0), d.1))
    (declaration_from I false (line_of ts) ts >>= λ d. Some (stmt (line_of ts) (line_of ts) (made.Declare d.0), d.1))

abbrev pub is_declaring_key : Keyword → Bool
is_declaring_key key.Static = true
is_declaring_key key.Struct = true
is_declaring_key _ = false

-- a sign that a declaration begins with
abbrev pub declares_sign : Sign → Bool
declares_sign (sign.Kind k) = true
declares_sign sign.Real = true
declares_sign (sign.Key k) = is_declaring_key k
declares_sign _ = false

unfoldable pub declares_at : Terminals → Bool
declares_at [] = false
declares_at (t ∷ ts) = declares_sign t.what

-- a simple statement or a declaration
unfoldable pub line_at : Reader → InitReader → Terminals → Option (Stmt × Terminals)
line_at E I ts = if declares_at ts then declare_at I ts else simple_at E ts

abbrev pub before : Option (Stmt × Terminals) → Fixed → Option (Stmt × Terminals)
before r f = r >>= λ s. after f s.1 >>= λ c. Some (s.0, c.1)

-- ---- statements

unfoldable pub if_at : StmtReader → Reader → ℕ → StmtReader
if_at S E line ts =
    test_at E ts >>= λ c. S c.1 >>= λ s. found (after (fixed.Key key.Else) s.1) (λ e. S e.1 >>= λ t. Some (stmt line line (made.If c.0 s.0 (Some t.0)), t.1)) (Some (stmt line line (made.If c.0 s.0 None), s.1))

unfoldable pub while_at : StmtReader → Reader → ℕ → StmtReader
while_at S E line ts = test_at E ts >>= λ c. S c.1 >>= λ s. Some (stmt line line (made.While c.0 s.0), s.1)

unfoldable pub do_at : StmtReader → Reader → ℕ → StmtReader
do_at S E line ts = S ts >>= λ s. after (fixed.Key key.While) s.1 >>= λ w. test_at E w.1 >>= λ c. after semicolon c.1 >>= λ d. Some (stmt line line (made.DoWhile s.0 c.0), d.1)

unfoldable pub first_at : Reader → InitReader → Terminals → Option (Option Stmt × Terminals)
first_at E I ts = found (after semicolon ts) (λ x. Some (None, x.1)) (before (line_at E I ts) semicolon >>= λ s. Some (Some s.0, s.1))

-- an expression, if there is one, and its `;`
unfoldable pub value_at : Reader → Terminals → Option (Option Expr × Terminals)
value_at E ts = found (after semicolon ts) (λ x. Some (None, x.1)) (E 1 ts >>= λ e. after semicolon e.1 >>= λ c. Some (Some e.0, c.1))

unfoldable pub next_at : Reader → Terminals → Option (Option Stmt × Terminals)
next_at E ts = found (after close ts) (λ x. Some (None, x.1)) (before (simple_at E ts) close >>= λ s. Some (Some s.0, s.1))

unfoldable pub for_at : StmtReader → Reader → InitReader → ℕ → StmtReader
for_at S E I line ts =
    after opening ts >>= λ o. first_at E I o.1 >>= λ a. value_at E a.1 >>= λ b. next_at E b.1 >>= λ c. S c.1 >>= λ s. Some (stmt line line (made.For a.0 b.0 c.0 s.0), s.1)

unfoldable pub return_at : Reader → ℕ → StmtReader
return_at E line ts = value_at E ts >>= λ v. Some (stmt line line (made.Return v.0), v.1)

unfoldable pub jump_at : Act → ℕ → StmtReader
jump_at act line ts = after semicolon ts >>= λ c. Some (stmt line line act, c.1)

abbrev pub sign_head : Sign → Head
sign_head (sign.Mark mark.Semicolon) = head.Empty
sign_head (sign.Mark mark.OpenBrace) = head.Block
sign_head (sign.Key key.If) = head.If
sign_head (sign.Key key.While) = head.While
sign_head (sign.Key key.Do) = head.Do
sign_head (sign.Key key.For) = head.For
sign_head (sign.Key key.Return) = head.Return
sign_head (sign.Key key.Break) = head.Break
sign_head (sign.Key key.Continue) = head.Continue
sign_head _ = head.Simple

-- the part of a block behind its `{`, or behind some of its statements; L reads one of them
unfoldable pub block_at : StmtReader → ℕ → List Stmt → Terminals → Option (List Stmt × Terminals)
block_at L zero done ts = None
block_at L (suc m) done ts = found (after close_brace ts) (λ c. Some (done, c.1)) (L ts >>= λ r. block_at L m (done ++ r.0 ∷ []) r.1)

unfoldable pub headed : StmtReader → StmtReader → Reader → InitReader → Head → ℕ → Terminals → Terminals → Option (Stmt × Terminals)
headed S L E I head.Empty line here ts = Some (stmt line line made.Empty, ts)
headed S L E I head.Block line here ts = block_at L (suc (length ts)) [] ts >>= λ b. Some (stmt line line (made.Block b.0), b.1)
headed S L E I head.If line here ts = if_at S E line ts
headed S L E I head.While line here ts = while_at S E line ts
headed S L E I head.Do line here ts = do_at S E line ts
headed S L E I head.For line here ts = for_at S E I line ts
headed S L E I head.Return line here ts = return_at E line ts
headed S L E I head.Break line here ts = jump_at made.Break line ts
headed S L E I head.Continue line here ts = jump_at made.Continue line ts
headed S L E I head.Simple line here ts = before (simple_at E here) semicolon

-- a statement of the grammar
unfoldable pub stmt_of : StmtReader → StmtReader → Reader → InitReader → StmtReader
stmt_of S L E I [] = None
stmt_of S L E I (t ∷ ts) = headed S L E I (sign_head t.what) t.line (t ∷ ts) ts

-- one of a block's: also a declaration or a pragma
abbrev pub listed_step : StmtReader → InitReader → ℕ → Sign → Terminals → Terminals → Option (Stmt × Terminals)
listed_step S I line (sign.Cle p) here ts = Some (stmt line line (made.Cle p), ts)
listed_step S I line _ here ts = if declares_at here then before (declare_at I here) semicolon else S here

unfoldable pub listed_of : StmtReader → InitReader → StmtReader
listed_of S I [] = None
listed_of S I (t ∷ ts) = listed_step S I t.line t.what (t ∷ ts) ts

-- with fuel for n levels
unfoldable pub stmt_at : ℕ → Reader → InitReader → StmtReader
stmt_at zero E I ts = None
stmt_at (suc n) E I ts = stmt_of (stmt_at n E I) (listed_of (stmt_at n E I) I) E I ts
