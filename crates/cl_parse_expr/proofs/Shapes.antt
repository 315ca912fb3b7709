-- What is known of a tree, one level at a time, and induction over expressions.
use Rattle.std.proofs.Common.{◌≡◌, ℕ, suc, ◌<◌, ◌≤◌, List, [], ◌∷◌, map, refl, subst, sym, ap, ◌∙◌, arith, Bool, true, false}
use Rattle.cl_tree.specs.declared.kinds.BinOp.{BinOp}
use Rattle.cl_tree.specs.declared.kinds.BinOp.TheVariants as binary
use Rattle.cl_tree.specs.declared.tree.Expr.{Expr, Expr-F, out-Expr, roll-Expr, ind-Expr, out-roll-Expr, fold_out-Expr}
use Rattle.cl_tree.specs.declared.tree.Node.{Node, Node-F, out-Node, roll-Node, out-roll-Node, roll-out-Node, map-Node, fold-Node, fold_out-Node}
use Rattle.cl_tree.specs.declared.tree.Node.TheOpen as node
use Rattle.cl_tree.specs.Spelling.{Shape, node_step, shape, binds}
use Rattle.cl_parse_expr.specs.Reading.{tree}

abbrev pub Shaper : Type 0
Shaper = ℕ → ℕ → Shape

abbrev pub shaped : Node-F Node Expr → Node-F Shaper Shape
shaped = map-Node Node Expr Shaper Shape (fold-Node Shaper Shape node_step (λ e. e.node e.line e.second)) shape

pub shape_is : (e : Expr) → shape e ≡ node_step (shaped (out-Node e.node)) e.line e.second
unfolding shape
shape_is e = fold_out-Expr Shaper Shape node_step (λ e. e.node e.line e.second) e ∙ ap (λ (f : Shaper). f e.line e.second) (fold_out-Node Shaper Shape node_step (λ e. e.node e.line e.second) e.node)

-- of a tree that was built
pub shape_made : (l s : ℕ) (n : Node) (x : Node-F Node Expr) → out-Node n ≡ x → shape (tree l s n) ≡ node_step (shaped x) l s
shape_made l s n x e = shape_is (tree l s n) ∙ ap (λ (y : Node-F Node Expr). node_step (shaped y) l s) e

-- of a tree that is opened
pub shape_open : (p : Expr) (x : Node-F Node Expr) → out-Node p.node ≡ x → shape p ≡ node_step (shaped x) p.line p.second
shape_open p x e = shape_is p ∙ ap (λ (y : Node-F Node Expr). node_step (shaped y) p.line p.second) e

-- a tree is what it is built of
pub tree_is : (p : Expr) (x : Node-F Node Expr) → out-Node p.node ≡ x → tree p.line p.second (roll-Node x) ≡ p
tree_is p x e = ap (λ (n : Node). tree p.line p.second n) (ap (λ (y : Node-F Node Expr). roll-Node y) (sym e) ∙ roll-out-Node p.node)

-- above what a terminal must bind to be part of the last operand
abbrev pub edge_of : Node-F Node Expr → ℕ
edge_of (node.Number v k) = 15
edge_of node.Real = 15
edge_of (node.Letter b) = 15
edge_of (node.Text bs) = 15
edge_of (node.Variable n) = 15
edge_of (node.Unary op e) = 12
edge_of (node.Binary op a b) = suc (binds op)
edge_of (node.Choice c a b) = 1
edge_of (node.Cast t e) = 12
edge_of (node.Call n es) = 15
edge_of (node.Index a b) = 15
edge_of (node.Member a n) = 15
edge_of (node.Arrow a n) = 15
edge_of (node.Paren e) = 15

unfoldable pub edge : Expr → ℕ
edge e = edge_of (out-Node e.node)

pub binds_from : (op : BinOp) → 2 ≤ binds op
binds_from binary.Or = omega arith
binds_from binary.And = omega arith
binds_from binary.BitOr = omega arith
binds_from binary.Xor = omega arith
binds_from binary.BitAnd = omega arith
binds_from binary.Equal = omega arith
binds_from binary.Unequal = omega arith
binds_from binary.Less = omega arith
binds_from binary.Greater = omega arith
binds_from binary.AtMost = omega arith
binds_from binary.AtLeast = omega arith
binds_from binary.Left = omega arith
binds_from binary.Right = omega arith
binds_from binary.Add = omega arith
binds_from binary.Sub = omega arith
binds_from binary.Mul = omega arith
binds_from binary.Div = omega arith
binds_from binary.Rem = omega arith

pub binds_to : (op : BinOp) → binds op ≤ 11
binds_to binary.Or = omega arith
binds_to binary.And = omega arith
binds_to binary.BitOr = omega arith
binds_to binary.Xor = omega arith
binds_to binary.BitAnd = omega arith
binds_to binary.Equal = omega arith
binds_to binary.Unequal = omega arith
binds_to binary.Less = omega arith
binds_to binary.Greater = omega arith
binds_to binary.AtMost = omega arith
binds_to binary.AtLeast = omega arith
binds_to binary.Left = omega arith
binds_to binary.Right = omega arith
binds_to binary.Add = omega arith
binds_to binary.Sub = omega arith
binds_to binary.Mul = omega arith
binds_to binary.Div = omega arith
binds_to binary.Rem = omega arith

-- how the edge and the level lie
pub record IsEdge (edge level : ℕ) : Type 0 where
  pub above : edge ≤ suc level
  pub below : (k : ℕ) → k ≤ level → k ≤ 12 → k ≤ edge
  pub choice : 1 < edge → 2 ≤ level
  pub some : 1 ≤ level
  pub strict : (l : ℕ) → 2 ≤ l → l ≤ 11 → l ≤ level → l < edge
  pub postfix : 14 ≤ level → 14 < edge
  pub after : 14 < edge → 14 ≤ level

edge_step : (x : Node-F Node Expr) (l s : ℕ) → IsEdge (edge_of x) (node_step (shaped x) l s).level
edge_step (node.Number v k) l s = record { above = omega arith; below = λ k f g. omega arith; choice = λ _. omega arith; some = omega arith; strict = λ i f g h. omega arith; postfix = λ h. omega arith; after = λ h. omega arith }
edge_step node.Real l s = record { above = omega arith; below = λ k f g. omega arith; choice = λ _. omega arith; some = omega arith; strict = λ i f g h. omega arith; postfix = λ h. omega arith; after = λ h. omega arith }
edge_step (node.Letter b) l s = record { above = omega arith; below = λ k f g. omega arith; choice = λ _. omega arith; some = omega arith; strict = λ i f g h. omega arith; postfix = λ h. omega arith; after = λ h. omega arith }
edge_step (node.Text bs) l s = record { above = omega arith; below = λ k f g. omega arith; choice = λ _. omega arith; some = omega arith; strict = λ i f g h. omega arith; postfix = λ h. omega arith; after = λ h. omega arith }
edge_step (node.Variable n) l s = record { above = omega arith; below = λ k f g. omega arith; choice = λ _. omega arith; some = omega arith; strict = λ i f g h. omega arith; postfix = λ h. omega arith; after = λ h. omega arith }
edge_step (node.Unary op e) l s = record { above = omega arith; below = λ k f g. omega arith; choice = λ _. omega arith; some = omega arith; strict = λ i f g h. omega arith; postfix = λ h. omega arith; after = λ h. omega arith }
edge_step (node.Binary op a b) l s = let f = binds_from op in let u = binds_to op in record { above = omega arith; below = λ k f g. omega arith; choice = λ _. omega arith; some = omega arith; strict = λ i f g h. omega arith; postfix = λ h. omega arith; after = λ h. omega arith }
edge_step (node.Choice c a b) l s = record { above = omega arith; below = λ k f g. omega arith; choice = λ h. absurd (omega arith); some = omega arith; strict = λ i f g h. omega arith; postfix = λ h. omega arith; after = λ h. omega arith }
edge_step (node.Cast t e) l s = record { above = omega arith; below = λ k f g. omega arith; choice = λ _. omega arith; some = omega arith; strict = λ i f g h. omega arith; postfix = λ h. omega arith; after = λ h. omega arith }
edge_step (node.Call n es) l s = record { above = omega arith; below = λ k f g. omega arith; choice = λ _. omega arith; some = omega arith; strict = λ i f g h. omega arith; postfix = λ h. omega arith; after = λ h. omega arith }
edge_step (node.Index a b) l s = record { above = omega arith; below = λ k f g. omega arith; choice = λ _. omega arith; some = omega arith; strict = λ i f g h. omega arith; postfix = λ h. omega arith; after = λ h. omega arith }
edge_step (node.Member a n) l s = record { above = omega arith; below = λ k f g. omega arith; choice = λ _. omega arith; some = omega arith; strict = λ i f g h. omega arith; postfix = λ h. omega arith; after = λ h. omega arith }
edge_step (node.Arrow a n) l s = record { above = omega arith; below = λ k f g. omega arith; choice = λ _. omega arith; some = omega arith; strict = λ i f g h. omega arith; postfix = λ h. omega arith; after = λ h. omega arith }
edge_step (node.Paren e) l s = record { above = omega arith; below = λ k f g. omega arith; choice = λ _. omega arith; some = omega arith; strict = λ i f g h. omega arith; postfix = λ h. omega arith; after = λ h. omega arith }

pub edge_is : (e : Expr) → IsEdge (edge e) (shape e).level
unfolding edge
edge_is e = rw (shape_is e) (edge_step (out-Node e.node) e.line e.second)

pub edge_open : (p : Expr) (x : Node-F Node Expr) → out-Node p.node ≡ x → edge p ≡ edge_of x
unfolding edge
edge_open p x e = ap edge_of e

-- P of each
abbrev pub Each : (Expr → Type 0) → List Expr → Type 0
Each P [] = Unit {0}
Each P (e ∷ es) = P e × Each P es

abbrev pub Parts : (Expr → Type 0) → Node-F Node Expr → Type 0
Parts P (node.Number v k) = Unit {0}
Parts P node.Real = Unit {0}
Parts P (node.Letter b) = Unit {0}
Parts P (node.Text bs) = Unit {0}
Parts P (node.Variable n) = Unit {0}
Parts P (node.Unary op e) = P e
Parts P (node.Binary op a b) = P a × P b
Parts P (node.Choice c a b) = P c × P a × P b
Parts P (node.Cast t e) = P e
Parts P (node.Call n es) = Each P es
Parts P (node.Index a b) = P a × P b
Parts P (node.Member a n) = P a
Parts P (node.Arrow a n) = P a
Parts P (node.Paren e) = P e

each_of : (P : Expr → Type 0) (es : List ((e : Expr) × P e)) → Each P (map (λ e. e.0) es)
each_of P [] = tt
each_of P (e ∷ es) = (e.1, each_of P es)

parts_of : (P : Expr → Type 0) (Q : Node → Type 0) (y : Node-F ((n : Node) × Q n) ((e : Expr) × P e)) → Parts P (map-Node _ _ Node Expr (λ n. n.0) (λ e. e.0) y)
parts_of P Q (node.Number v k) = tt
parts_of P Q node.Real = tt
parts_of P Q (node.Letter b) = tt
parts_of P Q (node.Text bs) = tt
parts_of P Q (node.Variable n) = tt
parts_of P Q (node.Unary op e) = e.1
parts_of P Q (node.Binary op a b) = (a.1, b.1)
parts_of P Q (node.Choice c a b) = (c.1, a.1, b.1)
parts_of P Q (node.Cast t e) = e.1
parts_of P Q (node.Call n es) = each_of P es
parts_of P Q (node.Index a b) = (a.1, b.1)
parts_of P Q (node.Member a n) = a.1
parts_of P Q (node.Arrow a n) = a.1
parts_of P Q (node.Paren e) = e.1

-- P of an expression, where P of its children gives it
pub expr_induction : (P : Expr → Type 0) → ((e : Expr) → Parts P (out-Node e.node) → P e) → (e : Expr) → P e
expr_induction P step = ind-Expr (λ n. Parts P (out-Node n)) P
    (λ x y q. subst (Parts P) (sym (out-roll-Node x)) (subst (Parts P) q (parts_of P _ y)))
    (λ x y q. step (roll-Expr x) (subst (λ (n : Node). Parts P (out-Node n)) (ap (λ (r : Expr-F Node Expr). r.node) q) y.node.1))
