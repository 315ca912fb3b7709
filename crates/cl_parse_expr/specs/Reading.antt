-- The reader of expressions on lists.
use Rattle.std.specs.Prelude.{ℕ, zero, suc, List, [], ◌∷◌, ◌++◌, length, Option, Some, None}
use Rattle.cl_tree.specs.declared.token.Mark.{Mark}
use Rattle.cl_tree.specs.declared.token.Mark.TheVariants as mark
use Rattle.cl_tree.specs.declared.grammar.Base.{Base}
use Rattle.cl_tree.specs.declared.grammar.Sign.{Sign}
use Rattle.cl_tree.specs.declared.grammar.Sign.TheVariants as sign
use Rattle.cl_tree.specs.declared.tree.CType.{CType}
use Rattle.cl_tree.specs.declared.tree.Expr.{Expr}
use Rattle.cl_tree.specs.declared.tree.Node.{Node}
use Rattle.cl_tree.specs.declared.tree.Node.TheVariants as made
use Rattle.cl_tree.specs.Spelling.{binds}
use Rattle.cl_parse_expr.specs.declared.cursor.Fixed.{Fixed}
use Rattle.cl_parse_expr.specs.declared.cursor.Fixed.TheVariants as fixed
use Rattle.cl_parse_expr.specs.declared.cursor.Link.{Link}
use Rattle.cl_parse_expr.specs.declared.cursor.Link.TheVariants as link
use Rattle.cl_parse_expr.specs.declared.cursor.Start.{Start}
use Rattle.cl_parse_expr.specs.declared.cursor.Start.TheVariants as start
use Rattle.cl_parse_expr.specs.Cursor.{◌>>=◌, Terminals, found, after, name_at, start_of, link_at}
use Rattle.cl_parse_expr.specs.Types.{base_at, type_of, pointers_at, second_at}

-- an expression of a level, and what follows
abbrev pub Reader : Type 0
Reader = ℕ → Terminals → Option (Expr × Terminals)

abbrev pub tree : ℕ → ℕ → Node → Expr
tree line second node = record { line = line; second = second; node = node }

abbrev pub opening : Fixed
opening = fixed.Mark mark.OpenParen

abbrev pub close : Fixed
close = fixed.Mark mark.CloseParen

abbrev pub comma : Fixed
comma = fixed.Mark mark.Comma

unfoldable pub more_at : Reader → ℕ → List Expr → Terminals → Option (List Expr × Terminals)
more_at E zero done ts = None
more_at E (suc m) done ts = found (after comma ts) (λ c. E 1 c.1 >>= λ r. more_at E m (done ++ r.0 ∷ []) r.1) (after close ts >>= λ r. Some (done, r.1))

unfoldable pub args_at : Reader → Terminals → Option (List Expr × Terminals)
args_at E ts = found (after close ts) (λ c. Some ([], c.1)) (E 1 ts >>= λ r. more_at E (length r.1) (r.0 ∷ []) r.1)

unfoldable pub cast_from : Reader → ℕ → ℕ → CType × Terminals → Option (Expr × Terminals)
cast_from E line second p = after close p.1 >>= λ c. E 12 c.1 >>= λ e. Some (tree line second (made.Cast p.0 e.0), e.1)

unfoldable pub cast_at : Reader → ℕ → Base → ℕ → Terminals → Option (Expr × Terminals)
cast_at E line b floating ts = cast_from E line (second_at b floating line ts) (pointers_at (length ts) (type_of b) ts)

unfoldable pub paren_at : Reader → ℕ → Terminals → Option (Expr × Terminals)
paren_at E line ts = E 1 ts >>= λ r. after close r.1 >>= λ c. Some (tree line line (made.Paren r.0), c.1)

unfoldable pub start_step : Reader → ℕ → Start → Terminals → Option (Expr × Terminals)
start_step E line start.Nothing ts = None
start_step E line start.Group ts = found (base_at ts) (λ b. cast_at E line b.0 b.1 b.2) (paren_at E line ts)
start_step E line (start.Prefix op) ts = E 12 ts >>= λ r. Some (tree line line (made.Unary op r.0), r.1)

abbrev pub head_step : Reader → ℕ → Sign → Terminals → Option (Expr × Terminals)
head_step E line (sign.Integer value kind) ts = Some (tree line line (made.Number value kind), ts)
head_step E line sign.Floating ts = Some (tree line line made.Real, ts)
head_step E line (sign.Letter byte) ts = Some (tree line line (made.Letter byte), ts)
head_step E line (sign.Text bytes) ts = Some (tree line line (made.Text bytes), ts)
head_step E line (sign.Name name) ts = found (after opening ts) (λ o. args_at E o.1 >>= λ r. Some (tree line line (made.Call name r.0), r.1)) (Some (tree line line (made.Variable name), ts))
head_step E line (sign.Mark m) ts = start_step E line (start_of m) ts
head_step E line _ ts = None

unfoldable pub head_of : Reader → Terminals → Option (Expr × Terminals)
head_of E [] = None
head_of E (t ∷ ts) = head_step E t.line t.what ts

unfoldable pub grow : Reader → Expr → ℕ → Link → Terminals → Option (Expr × Terminals)
grow E left line link.Nothing ts = None
grow E left line (link.Binary op) ts = E (suc (binds op)) ts >>= λ r. Some (tree left.line line (made.Binary op left r.0), r.1)
grow E left line link.Choice ts =
    E 1 ts >>= λ a. after (fixed.Mark mark.Colon) a.1 >>= λ c. E 1 c.1 >>= λ b. Some (tree left.line left.line (made.Choice left a.0 b.0), b.1)
grow E left line link.Index ts = E 1 ts >>= λ i. after (fixed.Mark mark.CloseBracket) i.1 >>= λ c. Some (tree left.line line (made.Index left i.0), c.1)
grow E left line link.Member ts = name_at ts >>= λ n. Some (tree left.line left.line (made.Member left n.0), n.2)
grow E left line link.Arrow ts = name_at ts >>= λ n. Some (tree left.line line (made.Arrow left n.0), n.2)

unfoldable pub loop_of : Reader → ℕ → ℕ → Expr → Terminals → Option (Expr × Terminals)
loop_of E zero k left ts = None
loop_of E (suc m) k left ts = found (link_at k ts) (λ x. grow E left x.1 x.0 x.2 >>= λ r. loop_of E m k r.0 r.1) (Some (left, ts))

abbrev pub expr_of : Reader → ℕ → Terminals → Option (Expr × Terminals)
expr_of E k ts = head_of E ts >>= λ h. loop_of E (suc (length h.1)) k h.0 h.1

-- with fuel for n levels
unfoldable pub expr_at : ℕ → Reader
expr_at zero k ts = None
expr_at (suc n) k ts = expr_of (expr_at n) k ts
