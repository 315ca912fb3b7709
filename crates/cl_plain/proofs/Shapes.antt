-- An expression, one level at a time.
use Rattle.std.proofs.Common.{◌≡◌, ℕ, List, [], ◌∷◌, ◌++◌, refl, sym, ap, subst, ◌∙◌, map, append_assoc}
use Rattle.cl_tree.specs.declared.tree.Expr.{Expr, fold_out-Expr}
use Rattle.cl_tree.specs.declared.tree.Node.{Node, Node-F, out-Node, map-Node, fold-Node, fold_out-Node}
use Rattle.cl_tree.specs.declared.tree.Node.TheOpen as node
use Rattle.cl_tree.specs.declared.tree.Node.TheVariants.{Binary, Choice, Cast, Call, Index, Member, Arrow, Paren, outs-Binary, outs-Choice, outs-Cast, outs-Call, outs-Index, outs-Member, outs-Arrow, outs-Paren}
use Rattle.cl_tree.specs.declared.tree.CType.{CType}
use Rattle.cl_tree.specs.declared.token.Mark.TheVariants as mark
use Rattle.cl_tree.specs.declared.grammar.Sign.TheVariants as sign
use Rattle.cl_tree.specs.Words.{Word}
use Rattle.cl_tree.specs.Spelling.{Wanted, Spelling, Shape, node_step, shape, put, put_on, mark_at, mark_on, put_mark, first_on, commas, binary_mark, type_name, other_lines, held_by}
use Rattle.cl_tree.specs.declared.kinds.BinOp.{BinOp}
use Rattle.cl_plain.specs.Parts.{cast_part}
use Rattle.cl_plain.proofs.Parts.{cast_then}

-- there is a first terminal
abbrev Begun : Spelling → Type 0
Begun [] = ⊥
Begun (m ∷ ms) = Unit {0}

abbrev pub Waiting : Type 0
Waiting = ℕ → ℕ → Shape

abbrev pub parts : Node-F Node Expr → Node-F Waiting Shape
parts = map-Node Node Expr Waiting Shape (fold-Node Waiting Shape node_step (λ e. e.node e.line e.second)) shape

pub shape_is : (e : Expr) → shape e ≡ node_step (parts (out-Node e.node)) e.line e.second
unfolding shape
shape_is e =
    fold_out-Expr Waiting Shape node_step (λ e. e.node e.line e.second) e ∙ ap (λ (w : Waiting). w e.line e.second) (fold_out-Node Waiting Shape node_step (λ e. e.node e.line e.second) e.node)

pub shape_at : (e : Expr) (n : Node) (x : Node-F Node Expr) → e.node ≡ n → out-Node n ≡ x → shape e ≡ node_step (parts x) e.line e.second
shape_at e n x h o =
    shape_is e ∙ ap (λ (m : Node). node_step (parts (out-Node m)) e.line e.second) h ∙ ap (λ (y : Node-F Node Expr). node_step (parts y) e.line e.second) o

at_node : (e : Expr) (n : Node) (x : Node-F Node Expr) → e.node ≡ n → out-Node n ≡ x → (shape e).spelling ≡ (node_step (parts x) e.line e.second).spelling
at_node e n x h o = ap (λ (s : Shape). s.spelling) (shape_at e n x h o)

-- further lines of the first terminal
pub first_none : (ms : Spelling) → first_on [] ms ≡ ms
first_none [] = refl
first_none (m ∷ ms) = refl

first_more : (lines more : List ℕ) (ms ns : Spelling) → Begun ms → first_on lines (first_on more ms ++ ns) ≡ first_on (lines ++ more) ms ++ ns
first_more lines more [] ns b = absurd b
first_more lines more (m ∷ ms) ns b = ap (λ (ls : List ℕ). record { what = m.what; lines = ls } ∷ ms ++ ns) (sym (append_assoc lines more m.lines))

begun_append : (ms : Spelling) (n : Wanted) (ns : Spelling) → Begun (ms ++ n ∷ ns)
begun_append [] n ns = tt
begun_append (m ∷ ms) n ns = tt

begun_step : (x : Node-F Node Expr) (line second : ℕ) → Begun (node_step (parts x) line second).spelling
begun_step (node.Number value kind) line second = tt
begun_step node.Real line second = tt
begun_step (node.Letter byte) line second = tt
begun_step (node.Text bytes) line second = tt
begun_step (node.Variable name) line second = tt
begun_step (node.Unary op e) line second = tt
begun_step (node.Binary op a b) line second = begun_append _ _ _
begun_step (node.Choice c a b) line second = begun_append _ _ _
begun_step (node.Cast t e) line second = tt
begun_step (node.Call name arguments) line second = tt
begun_step (node.Index a i) line second = begun_append _ _ _
begun_step (node.Member a name) line second = begun_append _ _ _
begun_step (node.Arrow a name) line second = begun_append _ _ _
begun_step (node.Paren e) line second = tt

begun : (e : Expr) → Begun (shape e).spelling
begun e = subst (λ (s : Shape). Begun s.spelling) (sym (shape_is e)) (begun_step (out-Node e.node) e.line e.second)

-- what is written for each form, where the first terminal has further lines
on_node : (lines : List ℕ) (e : Expr) (n : Node) (x : Node-F Node Expr) → e.node ≡ n → out-Node n ≡ x → first_on lines (shape e).spelling ≡ first_on lines (node_step (parts x) e.line e.second).spelling
on_node lines e n x h o = ap (first_on lines) (at_node e n x h o)

on_left : (lines more : List ℕ) (e a : Expr) (n : Node) (x : Node-F Node Expr) (ns : Spelling) → e.node ≡ n → out-Node n ≡ x → (node_step (parts x) e.line e.second).spelling ≡ first_on more (shape a).spelling ++ ns → first_on lines (shape e).spelling ≡ first_on (lines ++ more) (shape a).spelling ++ ns
on_left lines more e a n x ns h o s = on_node lines e n x h o ∙ ap (first_on lines) s ∙ first_more lines more (shape a).spelling ns (begun a)

pub binary_written : (lines : List ℕ) (e a b : Expr) (op : BinOp) → e.node ≡ Binary op a b → first_on lines (shape e).spelling ≡ first_on (lines ++ e.line ∷ []) (shape a).spelling ++ mark_at e.second (binary_mark op) (shape b).spelling
binary_written lines e a b op h = on_left lines (e.line ∷ []) e a _ _ _ h (outs-Binary op a b) refl

pub choice_written : (lines : List ℕ) (e c a b : Expr) → e.node ≡ Choice c a b
    → first_on lines (shape e).spelling ≡ first_on (lines ++ e.line ∷ e.second ∷ []) (shape c).spelling ++ put_mark mark.Question ((shape a).spelling ++ put_mark mark.Colon (shape b).spelling)
choice_written lines e c a b h = on_left lines (e.line ∷ e.second ∷ []) e c _ _ _ h (outs-Choice c a b) refl

pub cast_written : (lines : List ℕ) (e : Expr) (t : CType) (a : Expr) → e.node ≡ Cast t a → first_on lines (shape e).spelling ≡ cast_part (lines ++ e.line ∷ []) t e.second ++ (shape a).spelling
cast_written lines e t a h =
    on_node lines e _ _ h (outs-Cast t a)
    ∙ ap (λ (ls : List ℕ). mark_on ls mark.OpenParen (type_name [] t e.second (put_mark mark.CloseParen (shape a).spelling))) (sym (append_assoc lines (e.line ∷ []) (other_lines (held_by t) e.second)))
    ∙ cast_then (lines ++ e.line ∷ []) t e.second (shape a).spelling

pub call_written : (lines : List ℕ) (e : Expr) (name : Word) (es : List Expr) → e.node ≡ Call name es
    → first_on lines (shape e).spelling ≡ put_on (lines ++ e.line ∷ e.second ∷ []) (sign.Name name) (put_mark mark.OpenParen (commas (map (λ (s : Shape). s.spelling) (map shape es)) ++ put_mark mark.CloseParen []))
call_written lines e name es h = on_node lines e _ _ h (outs-Call name es)

pub index_written : (lines : List ℕ) (e a i : Expr) → e.node ≡ Index a i → first_on lines (shape e).spelling ≡ first_on (lines ++ e.line ∷ []) (shape a).spelling ++ mark_at e.second mark.OpenBracket ((shape i).spelling ++ put_mark mark.CloseBracket [])
index_written lines e a i h = on_left lines (e.line ∷ []) e a _ _ _ h (outs-Index a i) refl

pub member_written : (lines : List ℕ) (e a : Expr) (name : Word) → e.node ≡ Member a name → first_on lines (shape e).spelling ≡ first_on (lines ++ e.line ∷ e.second ∷ []) (shape a).spelling ++ put_mark mark.Dot (put (sign.Name name) [])
member_written lines e a name h = on_left lines (e.line ∷ e.second ∷ []) e a _ _ _ h (outs-Member a name) refl

pub arrow_written : (lines : List ℕ) (e a : Expr) (name : Word) → e.node ≡ Arrow a name → first_on lines (shape e).spelling ≡ first_on (lines ++ e.line ∷ []) (shape a).spelling ++ mark_at e.second mark.Arrow (put (sign.Name name) [])
arrow_written lines e a name h = on_left lines (e.line ∷ []) e a _ _ _ h (outs-Arrow a name) refl

pub paren_written : (lines : List ℕ) (e a : Expr) → e.node ≡ Paren a → first_on lines (shape e).spelling ≡ mark_on (lines ++ e.line ∷ e.second ∷ []) mark.OpenParen ((shape a).spelling ++ put_mark mark.CloseParen [])
paren_written lines e a h = on_node lines e _ _ h (outs-Paren a)
