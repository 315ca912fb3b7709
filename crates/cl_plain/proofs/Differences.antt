-- The worked examples on trees.
use Rattle.std.proofs.Common.{◌≡◌, ℕ, [], ◌∷◌, ◌++◌, ◌&&◌, nat_le, true, false, refl, ap, ◌∙◌}
use Rattle.cl_tree.specs.declared.kinds.IntKind.TheVariants.{I32}
use Rattle.cl_tree.specs.declared.kinds.BinOp.TheVariants.{Sub}
use Rattle.cl_tree.specs.declared.token.Mark.TheVariants.{Minus}
use Rattle.cl_tree.specs.declared.tree.Expr.{Expr}
use Rattle.cl_tree.specs.declared.tree.Node.TheVariants.{Number, outs-Number, outs-Binary}
use Rattle.cl_tree.specs.declared.tree.Stmt.{Stmt}
use Rattle.cl_tree.specs.declared.grammar.Sign.TheVariants as sign
use Rattle.cl_tree.specs.Spelling.{Shape, shape, leaf, mark_at, first_on}
use Rattle.cl_tree.specs.Statements.{stmt_shape}
use Rattle.cl_plain.specs.Worked.{number, difference, right_first, left_first, in_a_row, on_lines, dangling_else}
use Rattle.cl_plain.proofs.Shapes.{shape_at}
use Rattle.cl_plain.proofs.StatementParts.{else_proper, if_dangling}

number_is : (line n : ℕ) → shape (number line n) ≡ leaf (sign.Integer n I32) line line
number_is line n = shape_at (number line n) _ _ refl (outs-Number n I32)

abbrev subtracted : ℕ → Shape → Shape → Shape
subtracted line a b = record {
  level = 10;
  spelling = first_on (line ∷ []) a.spelling ++ mark_at line Minus b.spelling;
  proper = (nat_le 10 a.level && nat_le 11 b.level) && (a.proper && b.proper);
}

difference_is : (line : ℕ) (a b : Expr) → shape (difference line a b) ≡ subtracted line (shape a) (shape b)
difference_is line a b = shape_at (difference line a b) _ _ refl (outs-Binary Sub a b)

two_numbers : (line m n : ℕ) → shape (difference line (number line m) (number line n)) ≡ subtracted line (leaf (sign.Integer m I32) line line) (leaf (sign.Integer n I32) line line)
two_numbers line m n =
    difference_is line (number line m) (number line n) ∙ ap (λ (s : Shape). subtracted line s (shape (number line n))) (number_is line m) ∙ ap (λ (s : Shape). subtracted line (leaf (sign.Integer m I32) line line) s) (number_is line n)

right_is : (line : ℕ) → shape (right_first line) ≡ subtracted line (leaf (sign.Integer 1 I32) line line) (subtracted line (leaf (sign.Integer 2 I32) line line) (leaf (sign.Integer 3 I32) line line))
right_is line =
    difference_is line (number line 1) _ ∙ ap (λ (s : Shape). subtracted line s (shape (difference line (number line 2) (number line 3)))) (number_is line 1) ∙ ap (λ (s : Shape). subtracted line (leaf (sign.Integer 1 I32) line line) s) (two_numbers line 2 3)

left_is : (line : ℕ) → shape (left_first line) ≡ subtracted line (subtracted line (leaf (sign.Integer 1 I32) line line) (leaf (sign.Integer 2 I32) line line)) (leaf (sign.Integer 3 I32) line line)
left_is line =
    difference_is line _ (number line 3) ∙ ap (λ (s : Shape). subtracted line s (shape (number line 3))) (two_numbers line 1 2) ∙ ap (λ (s : Shape). subtracted line (subtracted line (leaf (sign.Integer 1 I32) line line) (leaf (sign.Integer 2 I32) line line)) s) (number_is line 3)

pub right_improper : (line : ℕ) → (shape (right_first line)).proper ≡ false
right_improper line = ap (λ (s : Shape). s.proper) (right_is line)

pub left_proper : (line : ℕ) → (shape (left_first line)).proper ≡ true
left_proper line = ap (λ (s : Shape). s.proper) (left_is line)

literal_is : (line second n : ℕ) → shape (record { line = line; second = second; node = Number n I32 }) ≡ leaf (sign.Integer n I32) line second
literal_is line second n = shape_at (record { line = line; second = second; node = Number n I32 }) _ _ refl (outs-Number n I32)

pub any_lines : (a b c d e f : ℕ) → (shape (on_lines a b c d e f)).proper ≡ true
any_lines a b c d e f =
    ap (λ (s : Shape). s.proper) (shape_at (on_lines a b c d e f) _ _ refl (outs-Binary Sub _ _))
    ∙ ap (λ (s : Shape). (nat_le 10 s.level && nat_le 11 (shape (record { line = e; second = f; node = Number 2 I32 })).level) && (s.proper && (shape (record { line = e; second = f; node = Number 2 I32 })).proper)) (literal_is c d 1)
    ∙ ap (λ (s : Shape). (true && nat_le 11 s.level) && (true && s.proper)) (literal_is e f 2)

pub left_spelled : (line : ℕ) → (shape (left_first line)).spelling ≡ in_a_row line
left_spelled line = ap (λ (s : Shape). s.spelling) (left_is line)

pub dangling_improper : (line : ℕ) (c d : Expr) (a b : Stmt) → (stmt_shape (dangling_else line c d a b)).proper ≡ false
dangling_improper line c d a b = else_proper _ c _ b refl (if_dangling _ d a refl)
