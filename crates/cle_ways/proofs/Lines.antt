-- The line of an expression.
use Rattle.std.proofs.Common.{◌≡◌, ℕ, List, refl, ap, ◌∙◌}
use Rattle.cl_tree.specs.declared.tree.Expr.{Expr, fold-Expr, fold_out-Expr}
use Rattle.cl_tree.specs.declared.tree.Node.{Node, Node-F, out-Node, map-Node, fold-Node, fold_out-Node}
use Rattle.cl_tree.specs.declared.tree.Node.TheOpen as node
use Rattle.cl_levels.specs.Uses.{Known}
use Rattle.cl_levels.specs.Crossings.{Levelled}
use Rattle.cle_ways.specs.Ways.{Gist, node_gist, gist}

abbrev pub parts : Levelled → ℕ → List Known → Node-F Node Expr → Node-F (ℕ → Gist) Gist
parts l f ks = map-Node Node Expr (ℕ → Gist) Gist (fold-Node (ℕ → Gist) Gist (node_gist l f ks) (λ e. e.node e.line)) (gist l f ks)

pub gist_is : (l : Levelled) (f : ℕ) (ks : List Known) (e : Expr) → gist l f ks e ≡ node_gist l f ks (parts l f ks (out-Node e.node)) e.line
unfolding gist
gist_is l f ks e =
    fold_out-Expr (ℕ → Gist) Gist (node_gist l f ks) (λ x. x.node x.line) e
    ∙ ap (λ g. g e.line) (fold_out-Node (ℕ → Gist) Gist (node_gist l f ks) (λ x. x.node x.line) e.node)

node_line : (l : Levelled) (f : ℕ) (ks : List Known) (n : Node-F (ℕ → Gist) Gist) (line : ℕ) → (node_gist l f ks n line).line ≡ line
node_line l f ks (node.Number value kind) line = refl
node_line l f ks node.Real line = refl
node_line l f ks (node.Letter b) line = refl
node_line l f ks (node.Text t) line = refl
node_line l f ks (node.Variable name) line = refl
node_line l f ks (node.Unary op a) line = refl
node_line l f ks (node.Binary op a b) line = refl
node_line l f ks (node.Choice c a b) line = refl
node_line l f ks (node.Cast t a) line = refl
node_line l f ks (node.Call name all) line = refl
node_line l f ks (node.Index a i) line = refl
node_line l f ks (node.Member a name) line = refl
node_line l f ks (node.Arrow a name) line = refl
node_line l f ks (node.Paren a) line = refl

pub line_is : (l : Levelled) (f : ℕ) (ks : List Known) (e : Expr) → (gist l f ks e).line ≡ e.line
line_is l f ks e = ap (λ g. g.line) (gist_is l f ks e) ∙ node_line l f ks (parts l f ks (out-Node e.node)) e.line
