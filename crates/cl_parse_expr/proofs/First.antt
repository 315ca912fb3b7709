-- The first terminal of an expression, and the line on which it stands.
use Rattle.std.proofs.Common.{◌≡◌, ℕ, List, [], ◌∷◌, ◌++◌, refl, sym, subst}
use Rattle.cl_tree.specs.declared.kinds.UnOp.{UnOp}
use Rattle.cl_tree.specs.declared.kinds.UnOp.TheVariants as unary
use Rattle.cl_tree.specs.declared.token.Mark.TheVariants as mark
use Rattle.cl_tree.specs.declared.grammar.Sign.{Sign}
use Rattle.cl_tree.specs.declared.grammar.Sign.TheVariants as sign
use Rattle.cl_tree.specs.declared.tree.Expr.{Expr}
use Rattle.cl_tree.specs.declared.tree.Node.{Node, Node-F, out-Node}
use Rattle.cl_tree.specs.declared.tree.Node.TheOpen as node
use Rattle.cl_tree.specs.Spelling.{Want, is, Wanted, Spelling, first_on, Fits, Reads, Shape, node_step, shape, put, put_mark, mark_at, unary_mark, binary_mark}
use Rattle.cl_parse_expr.specs.declared.cursor.Start.TheVariants as start
use Rattle.cl_parse_expr.specs.Cursor.{Terminals, start_of, line_of}
use Rattle.cl_parse_expr.proofs.Shapes.{Parts, expr_induction, shape_is, shaped}
use Rattle.cl_parse_expr.proofs.Marks.{reads_split, fits_split, first_reads}

-- a sign that an expression begins with
abbrev pub IsFirst : Sign → Type 0
IsFirst (sign.Integer v k) = Unit {0}
IsFirst sign.Floating = Unit {0}
IsFirst (sign.Letter b) = Unit {0}
IsFirst (sign.Text bs) = Unit {0}
IsFirst (sign.Name n) = Unit {0}
IsFirst (sign.Mark m) = start_of m ≡ start.Nothing → ⊥
IsFirst _ = ⊥

abbrev pub want_first : Want → Type 0
want_first (is s) = IsFirst s
want_first _ = ⊥

abbrev pub Begins : Spelling → Type 0
Begins [] = ⊥
Begins (m ∷ ms) = want_first m.what

begins_first : (lines : List ℕ) (ms ns : Spelling) → Begins ms → Begins (first_on lines ms ++ ns)
begins_first lines [] ns h = absurd h
begins_first lines (m ∷ ms) ns h = h

unary_first : (op : UnOp) → start_of (unary_mark op) ≡ start.Nothing → ⊥
unary_first unary.Minus e = cc
unary_first unary.Plus e = cc
unary_first unary.Flip e = cc
unary_first unary.Not e = cc
unary_first unary.Star e = cc
unary_first unary.Amp e = cc

begins_step : (x : Node-F Node Expr) (l s : ℕ) → Parts (λ e. Begins (shape e).spelling) x → Begins (node_step (shaped x) l s).spelling
begins_step (node.Number v k) l s h = tt
begins_step node.Real l s h = tt
begins_step (node.Letter b) l s h = tt
begins_step (node.Text bs) l s h = tt
begins_step (node.Variable n) l s h = tt
begins_step (node.Unary op e) l s h = unary_first op
begins_step (node.Binary op a b) l s h = begins_first (l ∷ []) (shape a).spelling (mark_at s (binary_mark op) (shape b).spelling) h.0
begins_step (node.Choice c a b) l s h = begins_first (l ∷ s ∷ []) (shape c).spelling (put_mark mark.Question ((shape a).spelling ++ put_mark mark.Colon (shape b).spelling)) h.0
begins_step (node.Cast t e) l s h = λ e. cc
begins_step (node.Call n es) l s h = tt
begins_step (node.Index a b) l s h = begins_first (l ∷ []) (shape a).spelling (mark_at s mark.OpenBracket ((shape b).spelling ++ put_mark mark.CloseBracket [])) h.0
begins_step (node.Member a n) l s h = begins_first (l ∷ s ∷ []) (shape a).spelling (put_mark mark.Dot (put (sign.Name n) [])) h
begins_step (node.Arrow a n) l s h = begins_first (l ∷ []) (shape a).spelling (mark_at s mark.Arrow (put (sign.Name n) [])) h
begins_step (node.Paren e) l s h = λ e. cc

pub begins : (e : Expr) → Begins (shape e).spelling
begins = expr_induction (λ e. Begins (shape e).spelling) (λ e h. subst (λ (y : Shape). Begins y.spelling) (sym (shape_is e)) (begins_step (out-Node e.node) e.line e.second h))

-- the line on which the first terminal stands
abbrev pub BeginsOn : ℕ → Spelling → Type 0
BeginsOn line [] = Unit {0}
BeginsOn line (m ∷ ms) = (l : ℕ) → Fits m.lines l → l ≡ line

on_first : (line : ℕ) (lines : List ℕ) (ms ns : Spelling) → Begins ms → BeginsOn line (first_on (line ∷ lines) ms ++ ns)
on_first line lines [] ns b = absurd b
on_first line lines (m ∷ ms) ns b = λ l f. f.0

line_step : (x : Node-F Node Expr) (l s : ℕ) → BeginsOn l (node_step (shaped x) l s).spelling
line_step (node.Number v k) l s = λ y f. f.0
line_step node.Real l s = λ y f. f.0
line_step (node.Letter b) l s = λ y f. f.0
line_step (node.Text bs) l s = λ y f. f.0
line_step (node.Variable n) l s = λ y f. f.0
line_step (node.Unary op e) l s = λ y f. f.0
line_step (node.Binary op a b) l s = on_first l [] (shape a).spelling (mark_at s (binary_mark op) (shape b).spelling) (begins a)
line_step (node.Choice c a b) l s = on_first l (s ∷ []) (shape c).spelling (put_mark mark.Question ((shape a).spelling ++ put_mark mark.Colon (shape b).spelling)) (begins c)
line_step (node.Cast t e) l s = λ y f. f.0
line_step (node.Call n es) l s = λ y f. f.0
line_step (node.Index a b) l s = on_first l [] (shape a).spelling (mark_at s mark.OpenBracket ((shape b).spelling ++ put_mark mark.CloseBracket [])) (begins a)
line_step (node.Member a n) l s = on_first l (s ∷ []) (shape a).spelling (put_mark mark.Dot (put (sign.Name n) [])) (begins a)
line_step (node.Arrow a n) l s = on_first l [] (shape a).spelling (mark_at s mark.Arrow (put (sign.Name n) [])) (begins a)
line_step (node.Paren e) l s = λ y f. f.0

begins_on : (e : Expr) → BeginsOn e.line (shape e).spelling
begins_on e = subst (λ (y : Shape). BeginsOn e.line y.spelling) (sym (shape_is e)) (line_step (out-Node e.node) e.line e.second)

found_on : (line : ℕ) (ms : Spelling) (ts mid : Terminals) → Begins ms → BeginsOn line ms → Reads ms ts mid → line_of ts ≡ line
found_on line [] ts mid b on h = absurd b
found_on line (m ∷ ms) [] mid b on h = absurd h
found_on line (m ∷ ms) (t ∷ ts) mid b on h = on t.line h.1

-- An expression begins on its line.
pub first_line : (e : Expr) (ts mid : Terminals) → Reads (shape e).spelling ts mid → line_of ts ≡ e.line
first_line e ts mid h = found_on e.line (shape e).spelling ts mid (begins e) (begins_on e) h

-- further lines of its first terminal, which are its line
pub begun : (lines : List ℕ) (e : Expr) (ts rest : Terminals) → Fits lines e.line → Reads (shape e).spelling ts rest → Reads (first_on lines (shape e).spelling) ts rest
begun lines e ts rest f h = first_reads lines (shape e).spelling ts rest (subst (λ (y : ℕ). Fits lines y) (sym (first_line e ts rest h)) f) h

first_split : (lines : List ℕ) (ms ns : Spelling) (ts rest : Terminals) → Begins ms → Reads (first_on lines ms ++ ns) ts rest → Fits lines (line_of ts) × Reads (ms ++ ns) ts rest
first_split lines [] ns ts rest b h = absurd b
first_split lines (m ∷ ms) ns [] rest b h = absurd h
first_split lines (m ∷ ms) ns (t ∷ ts) rest b h = let f = fits_split lines m.lines t.line h.1 in (f.0, (h.0, f.1, h.2))

-- What stands on the left: further lines of its first terminal are its line.
pub record Led (lines : List ℕ) (a : Expr) (ms : Spelling) (ts rest : Terminals) : Type 0 where
  pub fits : Fits lines a.line
  pub reads : Reads ((shape a).spelling ++ ms) ts rest

pub led : (lines : List ℕ) (a : Expr) (ms : Spelling) (ts rest : Terminals) → Reads (first_on lines (shape a).spelling ++ ms) ts rest → Led lines a ms ts rest
led lines a ms ts rest h =
    let b = first_split lines (shape a).spelling ms ts rest (begins a) h in
    let r = reads_split (shape a).spelling ms ts rest b.1 in
    record { fits = subst (λ (y : ℕ). Fits lines y) (first_line a ts r.0 r.1) b.0; reads = b.1 }
