-- Statements: what is spelled so is read.
use Rattle.std.proofs.Common.{◌≡◌, ℕ, zero, suc, ◌<◌, ◌≤◌, List, [], ◌∷◌, ◌++◌, length, map, refl, subst, sym, ap, ◌∙◌, arith, Bool, true, false, not, cond, Option, Some, None, inl, inr, ◌⊎◌, append_assoc}
use Rattle.std.proofs.lemmas.Bool.{leb-true}
use Rattle.std.specs.List.{flat_map}
use Rattle.std.specs.Option.{option_map}
use Rattle.std.proofs.lemmas.List.{append-nil}
use Rattle.cl_tree.specs.declared.kinds.BinOp.{BinOp}
use Rattle.cl_tree.specs.declared.kinds.BinOp.TheVariants as binary
use Rattle.cl_tree.specs.declared.token.Mark.{Mark}
use Rattle.cl_tree.specs.declared.token.Mark.TheVariants as mark
use Rattle.cl_tree.specs.declared.token.Pragma.{Pragma}
use Rattle.cl_tree.specs.declared.grammar.Keyword.{Keyword}
use Rattle.cl_tree.specs.declared.grammar.Keyword.TheVariants as key
use Rattle.cl_tree.specs.declared.grammar.Base.{Base}
use Rattle.cl_tree.specs.declared.grammar.Base.TheVariants as base
use Rattle.cl_tree.specs.declared.grammar.Sign.{Sign}
use Rattle.cl_tree.specs.declared.grammar.Sign.TheVariants as sign
use Rattle.cl_tree.specs.declared.grammar.Terminal.{Terminal}
use Rattle.cl_tree.specs.declared.tree.Expr.{Expr}
use Rattle.cl_tree.specs.declared.tree.Node.{Node, Node-F, out-Node}
use Rattle.cl_tree.specs.declared.tree.Node.TheOpen as node
use Rattle.cl_tree.specs.declared.tree.Declarator.{Declarator}
use Rattle.cl_tree.specs.declared.tree.Declaration.{Declaration}
use Rattle.cl_tree.specs.declared.tree.Stmt.{Stmt}
use Rattle.cl_tree.specs.declared.tree.Act.{Act, Act-F, out-Act, roll-Act}
use Rattle.cl_tree.specs.declared.tree.Act.TheOpen as act
use Rattle.cl_tree.specs.declared.tree.Act.TheVariants as made
use Rattle.cl_tree.specs.declared.tree.Act.TheVariants.{rolls-Empty, rolls-Block, rolls-Set, rolls-Bump, rolls-Call, rolls-If, rolls-While, rolls-DoWhile, rolls-For, rolls-Return, rolls-Break, rolls-Continue, rolls-Declare, rolls-Cle}
use Rattle.cl_tree.specs.Spelling.{Spelling, put_on, put, put_mark, put_key, mark_at, mark_on, first_on, base_on, is_void, Reads, Shape, node_step, shape}
use Rattle.cl_tree.specs.Statements.{Form, simple, declares, pragma, other, StmtShape, act_step, stmt_shape, assign_mark, assigns, bump_mark, is_call, call_node, common_base, is_statement, is_simple, is_head, is_part, all_stmts, statements, head_first, head_test, head_next, is_first, is_test, is_next, declared, declaration, is_declaration, are_names}
use Rattle.cl_parse_expr.specs.declared.cursor.Fixed.{Fixed}
use Rattle.cl_parse_expr.specs.declared.cursor.Fixed.TheVariants as fixed
use Rattle.cl_parse_expr.specs.declared.cursor.Start.{Start}
use Rattle.cl_parse_expr.specs.declared.cursor.Start.TheVariants as start
use Rattle.cl_parse_expr.specs.Cursor.{Terminals, after, same_mark, same_key, fixed_sign, is_fixed, start_of}
use Rattle.cl_parse_expr.specs.Reading.{Reader, opening, close, comma}
use Rattle.cl_parse_expr.proofs.Shapes.{shape_is, shaped, binds_to}
use Rattle.cl_parse_expr.proofs.Marks.{some_of, and_elim, reads_split, reads_length, after_reads, is_fixed_true, no_terminal, no_terminals, not_other}
use Rattle.cl_parse_expr.proofs.Complete.{Complete, Ends, IsEnd, sign_ends, any_read, before_sign, starts_not, some_pair, close_ends, expr_opens}
use Rattle.cl_parse_expr.proofs.First.{IsFirst, Led, led}
use Rattle.cl_parse_stmt.specs.declared.simple.Tail.{Tail}
use Rattle.cl_parse_stmt.specs.declared.simple.Tail.TheVariants as tail
use Rattle.cl_parse_stmt.specs.declared.stmt.Head.{Head}
use Rattle.cl_parse_stmt.specs.declared.stmt.Head.TheVariants as head
use Rattle.cl_parse_stmt.specs.Declaring.{InitReader, open_brace, close_brace, semicolon, declared_as, declaration_from}
use Rattle.cl_parse_stmt.specs.Stating.{StmtReader, stmt, mark_tail, tail_of, tail_at, unary_node, is_unary, ended_by, from_place, bumped, simple_at, test_at, declare_at, declares_sign, declares_at, line_at, before, if_at, while_at, do_at, first_at, value_at, next_at, for_at, return_at, jump_at, sign_head, block_at, headed, stmt_of, listed_step, listed_of, stmt_at}
use Rattle.cl_parse_stmt.proofs.Declared.{InitComplete, Follows, Closes, stop_closes, semicolon_stops, close_stops, plain_read, static_read, static_key, base_append}
use Rattle.cl_parse_stmt.proofs.Stated.{for_is, stmt_shaped, stmt_shape_is, stmt_open, stmt_is, else_key, NoElse, Stated, Part}

-- ---- simple statements

-- what may stand behind a simple statement
pub record Stops (ts : Terminals) : Type 0 where
  pub closes : Closes ts
  pub tail : (tail_at ts).0 ≡ tail.Nothing

abbrev pub Stopping : Spelling → Terminals → Type 0
Stopping ms rest = (ts : Terminals) → Reads ms ts rest → Stops ts

tail_sign : (s : Sign) (lines : List ℕ) (ms : Spelling) (ts rest : Terminals) → tail_of s ≡ tail.Nothing → Reads (put_on lines s ms) ts rest → (tail_at ts).0 ≡ tail.Nothing
unfolding tail_at
tail_sign s lines ms [] rest e h = absurd h
tail_sign s lines ms (t ∷ ts) rest e h = ap tail_of h.0 ∙ e

pub semicolon_stop : (ms : Spelling) (rest : Terminals) → Stopping (put_mark mark.Semicolon ms) rest
semicolon_stop ms rest ts h = record { closes = stop_closes (sign.Mark mark.Semicolon) [] ms ts rest semicolon_stops h; tail = tail_sign (sign.Mark mark.Semicolon) [] ms ts rest refl h }

pub close_stop : (ms : Spelling) (rest : Terminals) → Stopping (put_mark mark.CloseParen ms) rest
close_stop ms rest ts h = record { closes = stop_closes (sign.Mark mark.CloseParen) [] ms ts rest close_stops h; tail = tail_sign (sign.Mark mark.CloseParen) [] ms ts rest refl h }

-- what was read before ms
pub record LineRead (S : StmtReader) (p : Stmt) (ms : Spelling) (ts rest : Terminals) : Type 0 where
  pub next : Terminals
  pub found : S ts ≡ Some (p, next)
  pub reads : Reads ms next rest
  pub less : length next ≤ length ts

unary_back_step : (x : Node-F Node Expr) (l s : ℕ) → 13 ≤ (node_step (shaped x) l s).level → unary_node x ≡ true
unary_back_step (node.Number v k) l s e = refl
unary_back_step node.Real l s e = refl
unary_back_step (node.Letter b) l s e = refl
unary_back_step (node.Text b) l s e = refl
unary_back_step (node.Variable n) l s e = refl
unary_back_step (node.Unary op a) l s e = refl
unary_back_step (node.Binary op a b) l s e = let u = binds_to op in absurd (omega arith)
unary_back_step (node.Choice c a b) l s e = absurd (omega arith)
unary_back_step (node.Cast t a) l s e = absurd (omega arith)
unary_back_step (node.Call n es) l s e = refl
unary_back_step (node.Index a b) l s e = refl
unary_back_step (node.Member a n) l s e = refl
unary_back_step (node.Arrow a n) l s e = refl
unary_back_step (node.Paren a) l s e = refl

unary_back : (e : Expr) → 13 ≤ (shape e).level → is_unary e ≡ true
unfolding is_unary
unary_back e h = unary_back_step (out-Node e.node) e.line e.second (subst (λ (y : Shape). 13 ≤ y.level) (shape_is e) h)

-- a place is read before what links nothing
place_read : (E : Reader) (n : ℕ) → Complete E n → (a : Expr) (ts mid : Terminals) → length ts < n → (shape a).proper ≡ true → 12 ≤ (shape a).level → Reads (shape a).spelling ts mid → Ends mid → E 12 ts ≡ Some (a, mid)
place_read E n all a ts mid lt p v r ends =
    let free = ends.free in
    all 12 a ts mid lt (record { some = omega arith; most = omega arith; proper = p; level = v; reads = r; closed = ends.closed }) (omega arith)

call_level_step : (x : Node-F Node Expr) (l s : ℕ) → call_node x ≡ true → 12 ≤ (node_step (shaped x) l s).level
call_level_step (node.Call n es) l s e = omega arith
call_level_step _ l s e = absurd cc

call_level : (a : Expr) → is_call a ≡ true → 12 ≤ (shape a).level
unfolding is_call
call_level a h = rw (shape_is a) (call_level_step (out-Node a.node) a.line a.second h)

no_plus : (a : Expr) (ts mid : Terminals) → Reads (shape a).spelling ts mid → after (fixed.Mark mark.PlusPlus) ts ≡ None
no_plus a ts mid h = starts_not (fixed.Mark mark.PlusPlus) refl a ts mid h

no_minus : (a : Expr) (ts mid : Terminals) → Reads (shape a).spelling ts mid → after (fixed.Mark mark.MinusMinus) ts ≡ None
no_minus a ts mid h = starts_not (fixed.Mark mark.MinusMinus) refl a ts mid h

from_expr : (E : Reader) (a : Expr) (ts mid : Terminals) (x : Option (Stmt × Terminals)) → Reads (shape a).spelling ts mid → E 12 ts ≡ Some (a, mid) → from_place E (a, mid) ≡ x → simple_at E ts ≡ x
unfolding simple_at
from_expr E a ts mid x r e f = rw (no_plus a ts mid r, no_minus a ts mid r, e) f

by_stmt : (p : Stmt) (n : Act) (rest : Terminals) → stmt p.line p.second n ≡ p → some_of {A = Stmt × Terminals} (stmt p.line p.second n, rest) ≡ some_of {A = Stmt × Terminals} (p, rest)
by_stmt p n rest e = ap (λ (y : Stmt). some_of {A = Stmt × Terminals} (y, rest)) e

call_found : (E : Reader) (a : Expr) (l c : ℕ) (mid : Terminals) → is_call a ≡ true → l ≡ a.line → c ≡ l → (tail_at mid).0 ≡ tail.Nothing → from_place E (a, mid) ≡ Some (stmt l c (made.Call a), mid)
unfolding from_place ended_by
call_found E a l c mid k q r t = rw (t, k, r, q) refl

-- an assignment at the front
tail_assign : (op : Option BinOp) → assigns op ≡ true → mark_tail (assign_mark op) ≡ tail.Assign op
tail_assign None e = refl
tail_assign (Some binary.Add) e = refl
tail_assign (Some binary.Sub) e = refl
tail_assign (Some binary.Mul) e = refl
tail_assign (Some binary.Div) e = refl
tail_assign (Some binary.Rem) e = refl
tail_assign (Some binary.Left) e = refl
tail_assign (Some binary.Right) e = refl
tail_assign (Some binary.BitAnd) e = refl
tail_assign (Some binary.BitOr) e = refl
tail_assign (Some binary.Xor) e = refl
tail_assign (Some binary.Or) e = absurd cc
tail_assign (Some binary.And) e = absurd cc
tail_assign (Some binary.Equal) e = absurd cc
tail_assign (Some binary.Unequal) e = absurd cc
tail_assign (Some binary.Less) e = absurd cc
tail_assign (Some binary.Greater) e = absurd cc
tail_assign (Some binary.AtMost) e = absurd cc
tail_assign (Some binary.AtLeast) e = absurd cc

assign_ends : (op : Option BinOp) → IsEnd (sign.Mark (assign_mark op))
unfolding same_mark
assign_ends None = (refl, refl)
assign_ends (Some binary.Add) = (refl, refl)
assign_ends (Some binary.Sub) = (refl, refl)
assign_ends (Some binary.Mul) = (refl, refl)
assign_ends (Some binary.Div) = (refl, refl)
assign_ends (Some binary.Rem) = (refl, refl)
assign_ends (Some binary.Left) = (refl, refl)
assign_ends (Some binary.Right) = (refl, refl)
assign_ends (Some binary.BitAnd) = (refl, refl)
assign_ends (Some binary.BitOr) = (refl, refl)
assign_ends (Some binary.Xor) = (refl, refl)
assign_ends (Some binary.Or) = (refl, refl)
assign_ends (Some binary.And) = (refl, refl)
assign_ends (Some binary.Equal) = (refl, refl)
assign_ends (Some binary.Unequal) = (refl, refl)
assign_ends (Some binary.Less) = (refl, refl)
assign_ends (Some binary.Greater) = (refl, refl)
assign_ends (Some binary.AtMost) = (refl, refl)
assign_ends (Some binary.AtLeast) = (refl, refl)

bump_ends : (up : Bool) → IsEnd (sign.Mark (bump_mark up))
unfolding same_mark
bump_ends true = (refl, refl)
bump_ends false = (refl, refl)

tail_bump : (up : Bool) → mark_tail (bump_mark up) ≡ tail.Bump up
tail_bump true = refl
tail_bump false = refl

assigned_found : (E : Reader) (op : Option BinOp) (a b : Expr) (l c : ℕ) (mid rest : Terminals) (next : Terminals) (line : ℕ) → assigns op ≡ true → is_unary a ≡ true → l ≡ a.line → tail_at mid ≡ (tail.Assign op, line, next) → line ≡ c → E 1 next ≡ Some (b, rest) → from_place E (a, mid) ≡ Some (stmt l c (made.Set op a b), rest)
unfolding from_place ended_by
assigned_found E op a b l c mid rest next line k u q t r e = rw (t, u, e, r, q) refl

bumped_found : (E : Reader) (up : Bool) (a : Expr) (l c : ℕ) (mid rest : Terminals) (line : ℕ) → is_unary a ≡ true → l ≡ a.line → tail_at mid ≡ (tail.Bump up, line, rest) → line ≡ c → from_place E (a, mid) ≡ Some (stmt l c (made.Bump up false a), rest)
unfolding from_place ended_by
bumped_found E up a l c mid rest line u q t r = rw (t, u, r, q) refl

-- the tail of what is spelled with a mark
pub record Tailed (y : Tail) (c : ℕ) (ms : Spelling) (ts rest : Terminals) : Type 0 where
  pub line : ℕ
  pub next : Terminals
  pub found : tail_at ts ≡ (y, line, next)
  pub at_line : line ≡ c
  pub reads : Reads ms next rest
  pub less : length ts ≡ suc (length next)

tail_reads : (m : Mark) (y : Tail) (c : ℕ) (ms : Spelling) (ts rest : Terminals) → mark_tail m ≡ y → Reads (mark_at c m ms) ts rest → Tailed y c ms ts rest
unfolding tail_at
tail_reads m y c ms [] rest e h = absurd h
tail_reads m y c ms (t ∷ ts) rest e h = record { line = t.line; next = ts; found = let f : tail_of t.what ≡ y = ap tail_of h.0 ∙ e in rw f refl; at_line = h.1.0; reads = h.2; less = refl }

prefix_found : (E : Reader) (up : Bool) (a : Expr) (l c : ℕ) (ts next rest : Terminals) (line : ℕ) → after (fixed.Mark (bump_mark up)) ts ≡ Some (line, next) → after (fixed.Mark mark.PlusPlus) ts ≡ cond up (Some (line, next)) None → line ≡ l → c ≡ l → is_unary a ≡ true → E 12 next ≡ Some (a, rest) → simple_at E ts ≡ Some (stmt l c (made.Bump up true a), rest)
unfolding simple_at bumped
prefix_found E true a l c ts next rest line f g q r u e = rw (f, e, u, q, r) refl
prefix_found E false a l c ts next rest line f g q r u e = rw (g, f, e, u, q, r) refl

bump_first : (up : Bool) (lines : List ℕ) (ms : Spelling) (ts rest : Terminals) (x : ℕ × Terminals) → after (fixed.Mark (bump_mark up)) ts ≡ Some x → Reads (mark_on lines (bump_mark up) ms) ts rest → after (fixed.Mark mark.PlusPlus) ts ≡ cond up (Some x) None
unfolding same_mark
bump_first true lines ms ts rest x f h = f
bump_first false lines ms ts rest x f h = not_other (sign.Mark mark.MinusMinus) (fixed.Mark mark.PlusPlus) lines ms ts rest refl h

simple_step : (E : Reader) (n : ℕ) → Complete E n → (p : Stmt) (x : Act-F Act Stmt) → out-Act p.node ≡ x → (act_step (stmt_shaped x) p.line p.second).form ≡ simple → (act_step (stmt_shaped x) p.line p.second).proper ≡ true → (ms : Spelling) (ts rest : Terminals) → length ts < n → Reads ((act_step (stmt_shaped x) p.line p.second).bare ++ ms) ts rest → Stopping ms rest → LineRead (simple_at E) p ms ts rest
simple_step E n all p (act.Set op a b) o f proper ms ts rest lt h stop =
    let k = and_elim _ _ proper in
    let v = and_elim _ _ k.1 in
    let u = and_elim _ _ v.1 in
    let high : 13 ≤ (shape a).level = leb-true _ _ v.0 in
    let d = led (p.line ∷ []) a (mark_at p.second (assign_mark op) ((shape b).spelling ++ ms)) ts rest
    (subst (λ (y : Spelling). Reads y ts rest) (append_assoc (first_on (p.line ∷ []) (shape a).spelling) (mark_at p.second (assign_mark op) (shape b).spelling) ms) h) in
    let r = reads_split (shape a).spelling (mark_at p.second (assign_mark op) ((shape b).spelling ++ ms)) ts rest d.reads in
    let t = tail_reads (assign_mark op) (tail.Assign op) p.second ((shape b).spelling ++ ms) r.0 rest (tail_assign op k.0) r.2 in
    let w = reads_split (shape b).spelling ms t.next rest t.reads in
    let long = t.less in
    let short = reads_length (shape a).spelling ts r.0 r.1 in
    let tiny = reads_length (shape b).spelling t.next w.0 w.1 in
    let stopped = stop w.0 w.2 in
    let place = place_read E n all a ts r.0 lt u.0 (omega arith) r.1 (sign_ends (sign.Mark (assign_mark op)) (p.second ∷ []) ((shape b).spelling ++ ms) r.0 rest (assign_ends op) r.2) in
    let value = any_read E n all b t.next w.0 (omega arith) u.1 w.1 stopped.closes.ends in
    record {
      next = w.0;
      found = from_expr E a ts r.0 _ r.1 place (assigned_found E op a b p.line p.second r.0 w.0 t.next t.line k.0 (unary_back a high) (sym d.fits.0) t.found t.at_line value) ∙ by_stmt p _ w.0 (stmt_is p _ _ o (rolls-Set op a b));
      reads = w.2;
      less = omega arith;
    }
simple_step E n all p (act.Bump up true a) o f proper ms ts rest lt h stop =
    let v = and_elim _ _ proper in
    let high : 13 ≤ (shape a).level = leb-true _ _ v.0 in
    let t = after_reads (fixed.Mark (bump_mark up)) (p.line ∷ p.second ∷ []) ((shape a).spelling ++ ms) ts rest h in
    let w = reads_split (shape a).spelling ms t.next rest t.reads in
    let long = t.less in
    let tiny = reads_length (shape a).spelling t.next w.0 w.1 in
    let stopped = stop w.0 w.2 in
    let place = place_read E n all a t.next w.0 (omega arith) v.1 (omega arith) w.1 stopped.closes.ends in
    record {
      next = w.0;
      found = prefix_found E up a p.line p.second ts t.next w.0 t.line t.found (bump_first up (p.line ∷ p.second ∷ []) ((shape a).spelling ++ ms) ts rest (t.line, t.next) t.found h) t.fits.0 (sym t.fits.1.0 ∙ t.fits.0) (unary_back a high) place ∙ by_stmt p _ w.0 (stmt_is p _ _ o (rolls-Bump up true a));
      reads = w.2;
      less = omega arith;
    }
simple_step E n all p (act.Bump up false a) o f proper ms ts rest lt h stop =
    let v = and_elim _ _ proper in
    let high : 13 ≤ (shape a).level = leb-true _ _ v.0 in
    let d = led (p.line ∷ []) a (mark_at p.second (bump_mark up) ms) ts rest
    (subst (λ (y : Spelling). Reads y ts rest) (append_assoc (first_on (p.line ∷ []) (shape a).spelling) (mark_at p.second (bump_mark up) []) ms) h) in
    let r = reads_split (shape a).spelling (mark_at p.second (bump_mark up) ms) ts rest d.reads in
    let t = tail_reads (bump_mark up) (tail.Bump up) p.second ms r.0 rest (tail_bump up) r.2 in
    let long = t.less in
    let short = reads_length (shape a).spelling ts r.0 r.1 in
    let place = place_read E n all a ts r.0 lt v.1 (omega arith) r.1 (sign_ends (sign.Mark (bump_mark up)) (p.second ∷ []) ms r.0 rest (bump_ends up) r.2) in
    record {
      next = t.next;
      found = from_expr E a ts r.0 _ r.1 place (bumped_found E up a p.line p.second r.0 t.next t.line (unary_back a high) (sym d.fits.0) t.found t.at_line) ∙ by_stmt p _ t.next (stmt_is p _ _ o (rolls-Bump up false a));
      reads = t.reads;
      less = omega arith;
    }
simple_step E n all p (act.Call a) o f proper ms ts rest lt h stop =
    let u = and_elim _ _ proper in
    let d = led (p.line ∷ p.second ∷ []) a ms ts rest h in
    let w = reads_split (shape a).spelling ms ts rest d.reads in
    let tiny = reads_length (shape a).spelling ts w.0 w.1 in
    let stopped = stop w.0 w.2 in
    let place = place_read E n all a ts w.0 lt u.1 (call_level a u.0) w.1 stopped.closes.ends in
    record {
      next = w.0;
      found = from_expr E a ts w.0 _ w.1 place (call_found E a p.line p.second w.0 u.0 (sym d.fits.0) (sym d.fits.1.0 ∙ d.fits.0) stopped.tail) ∙ by_stmt p _ w.0 (stmt_is p _ _ o (rolls-Call a));
      reads = w.2;
      less = omega arith;
    }
simple_step E n all p act.Empty o f proper ms ts rest lt h stop = absurd cc
simple_step E n all p (act.Block ss) o f proper ms ts rest lt h stop = absurd cc
simple_step E n all p (act.If c s None) o f proper ms ts rest lt h stop = absurd cc
simple_step E n all p (act.If c s (Some t)) o f proper ms ts rest lt h stop = absurd cc
simple_step E n all p (act.While c s) o f proper ms ts rest lt h stop = absurd cc
simple_step E n all p (act.DoWhile s c) o f proper ms ts rest lt h stop = absurd cc
simple_step E n all p (act.For a b c s) o f proper ms ts rest lt h stop = absurd cc
simple_step E n all p (act.Return None) o f proper ms ts rest lt h stop = absurd cc
simple_step E n all p (act.Return (Some e)) o f proper ms ts rest lt h stop = absurd cc
simple_step E n all p act.Break o f proper ms ts rest lt h stop = absurd cc
simple_step E n all p act.Continue o f proper ms ts rest lt h stop = absurd cc
simple_step E n all p (act.Declare d) o f proper ms ts rest lt h stop = absurd cc
simple_step E n all p (act.Cle d) o f proper ms ts rest lt h stop = absurd cc

pub simple_read : (E : Reader) (n : ℕ) → Complete E n → (p : Stmt) → (stmt_shape p).form ≡ simple → (stmt_shape p).proper ≡ true → (ms : Spelling) (ts rest : Terminals) → length ts < n → Reads ((stmt_shape p).bare ++ ms) ts rest → Stopping ms rest → LineRead (simple_at E) p ms ts rest
simple_read E n all p f proper ms ts rest lt h stop =
    let e = stmt_shape_is p in
    simple_step E n all p (out-Act p.node) refl (subst (λ (y : StmtShape). y.form ≡ simple) e f) (subst (λ (y : StmtShape). y.proper ≡ true) e proper) ms ts rest lt (subst (λ (y : StmtShape). Reads (y.bare ++ ms) ts rest) e h) stop

-- ---- declarations

follows_stop : (ms : Spelling) (rest : Terminals) → ((ts : Terminals) → Reads ms ts rest → Stops ts) → ((ts : Terminals) → Reads ms ts rest → after comma ts ≡ None) → Follows ms rest
follows_stop ms rest s c = record { closes = λ ts h. let k = s ts h in k.closes; comma = c }

static_none : (b : Base) (lines : List ℕ) (ms : Spelling) (ts rest : Terminals) → Reads (base_on lines b ms) ts rest → after static_key ts ≡ None
unfolding same_key
static_none base.Void lines ms ts rest h = not_other (sign.Key key.Void) static_key lines ms ts rest refl h
static_none (base.Kind k) lines ms ts rest h = not_other (sign.Kind k) static_key lines ms ts rest refl h
static_none base.Real lines ms ts rest h = not_other sign.Real static_key lines ms ts rest refl h
static_none (base.Tag n) lines ms ts rest h = not_other (sign.Key key.Struct) static_key lines (put (sign.Name n) ms) ts rest refl h

declare_static : (I : InitReader) (n : ℕ) → InitComplete I n → (l c : ℕ) (ds : List Declarator) (ms : Spelling) (ts rest : Terminals) → length ts < n → are_names true ds ≡ true → Follows ms rest → Reads (declared (l ∷ c ∷ []) true ds ++ ms) ts rest → LineRead (declare_at I) (stmt l c (made.Declare (declared_as true ds))) ms ts rest
unfolding declare_at declaration_from
declare_static I n all l c ds ms ts rest lt p k h =
    let s = static_read I n all (l ∷ c ∷ []) ds ms ts rest lt p k h in
    let d = s.declared in
    let less = d.less in
    let more = s.less in
    let q : c ≡ l = sym d.fits.1.0 ∙ d.fits.0 in
    record { next = d.next; found = rw (s.found, d.base, d.names, d.fits.0) refl ∙ ap (λ (y : ℕ). some_of {A = Stmt × Terminals} (stmt l y (made.Declare (declared_as true ds)), d.next)) (sym q); reads = d.reads; less = omega arith }

declare_plain : (I : InitReader) (n : ℕ) → InitComplete I n → (l c : ℕ) (ds : List Declarator) (ms : Spelling) (ts rest : Terminals) → length ts < n → are_names true ds ≡ true → Follows ms rest → Reads (declared (l ∷ c ∷ []) false ds ++ ms) ts rest → LineRead (declare_at I) (stmt l c (made.Declare (declared_as false ds))) ms ts rest
unfolding declare_at declaration_from
declare_plain I n all l c ds ms ts rest lt p k h =
    let d = plain_read I n all (l ∷ c ∷ []) ds ms ts rest lt p k h in
    let less = d.less in
    let none = static_none (common_base ds) _ _ ts rest (subst (λ (y : Spelling). Reads y ts rest) (base_append _ (common_base ds) _ ms) h) in
    let q : c ≡ l = sym d.fits.1.0 ∙ d.fits.0 in
    record { next = d.next; found = rw (none, d.base, d.names, d.fits.0) refl ∙ ap (λ (y : ℕ). some_of {A = Stmt × Terminals} (stmt l y (made.Declare (declared_as false ds)), d.next)) (sym q); reads = d.reads; less = omega arith }

declare_step : (I : InitReader) (n : ℕ) → InitComplete I n → (b : Bool) (l c : ℕ) (ds : List Declarator) (ms : Spelling) (ts rest : Terminals) → length ts < n → are_names true ds ≡ true → Follows ms rest → Reads (declared (l ∷ c ∷ []) b ds ++ ms) ts rest → LineRead (declare_at I) (stmt l c (made.Declare (declared_as b ds))) ms ts rest
declare_step I n all true l c ds ms ts rest lt p k h = declare_static I n all l c ds ms ts rest lt p k h
declare_step I n all false l c ds ms ts rest lt p k h = declare_plain I n all l c ds ms ts rest lt p k h

declaration_open : (l c : ℕ) (d : Declaration) → declaration (l ∷ c ∷ []) d ≡ declared (l ∷ c ∷ []) d.is_static d.names
unfolding declaration
declaration_open l c d = refl

declaration_names : (d : Declaration) → is_declaration d ≡ true → are_names true d.names ≡ true
unfolding is_declaration
declaration_names d h = h

-- a statement that is a declaration
pub declare_read : (I : InitReader) (n : ℕ) → InitComplete I n → (p : Stmt) (d : Declaration) → out-Act p.node ≡ act.Declare d → (stmt_shape p).proper ≡ true → (ms : Spelling) (ts rest : Terminals) → length ts < n → Follows ms rest → Reads ((stmt_shape p).bare ++ ms) ts rest → LineRead (declare_at I) p ms ts rest
declare_read I n all p d o proper ms ts rest lt k h =
    let e = stmt_open p (act.Declare d) o in
    let q = subst (λ (y : StmtShape). y.proper ≡ true) e proper in
    let r : Reads (declared (p.line ∷ p.second ∷ []) d.is_static d.names ++ ms) ts rest = subst (λ (y : Spelling). Reads (y ++ ms) ts rest) (declaration_open p.line p.second d) (subst (λ (y : StmtShape). Reads (y.bare ++ ms) ts rest) e h) in
    let l = declare_step I n all d.is_static p.line p.second d.names ms ts rest lt (declaration_names d q) k r in
    let is : stmt p.line p.second (made.Declare d) ≡ p = stmt_is p _ _ o (rolls-Declare d) in
    record { next = l.next; found = l.found ∙ ap (λ (y : Stmt). some_of {A = Stmt × Terminals} (y, l.next)) is; reads = l.reads; less = l.less }

-- ---- the first terminal of a statement

abbrev pub is_cle : Sign → Bool
is_cle (sign.Cle p) = true
is_cle _ = false

-- no statement of a block begins with `}` or `else`
pub record AnyFirst (s : Sign) : Type 0 where
  pub brace : is_fixed close_brace s ≡ false
  pub otherwise : is_fixed else_key s ≡ false

pub record PartFirst (s : Sign) : Type 0 where
  pub any : AnyFirst s
  pub declares : declares_sign s ≡ false
  pub cle : is_cle s ≡ false

mark_first : (m : Mark) → same_mark m mark.CloseBrace ≡ false → PartFirst (sign.Mark m)
mark_first m e = record { any = record { brace = e; otherwise = refl }; declares = refl; cle = refl }

mark_start : Sign → Start
mark_start (sign.Mark m) = start_of m
mark_start _ = start.Nothing

expr_first_mark : (m : Mark) → (start_of m ≡ start.Nothing → ⊥) → same_mark m mark.CloseBrace ≡ false
unfolding mark_start
expr_first_mark m h = differs (same_mark m mark.CloseBrace) refl
  where
    differs : (b : Bool) → same_mark m mark.CloseBrace ≡ b → same_mark m mark.CloseBrace ≡ false
    differs true e = absurd (h (ap mark_start (is_fixed_true close_brace (sign.Mark m) e)))
    differs false e = e

expr_first : (s : Sign) → IsFirst s → PartFirst s
expr_first (sign.Integer v k) h = record { any = record { brace = refl; otherwise = refl }; declares = refl; cle = refl }
expr_first sign.Floating h = record { any = record { brace = refl; otherwise = refl }; declares = refl; cle = refl }
expr_first (sign.Letter b) h = record { any = record { brace = refl; otherwise = refl }; declares = refl; cle = refl }
expr_first (sign.Text bs) h = record { any = record { brace = refl; otherwise = refl }; declares = refl; cle = refl }
expr_first (sign.Name n) h = record { any = record { brace = refl; otherwise = refl }; declares = refl; cle = refl }
expr_first (sign.Mark m) h = mark_first m (expr_first_mark m h)
expr_first _ h = absurd h

simple_head : (s : Sign) → IsFirst s → sign_head s ≡ head.Simple
simple_head (sign.Integer v k) h = refl
simple_head sign.Floating h = refl
simple_head (sign.Letter b) h = refl
simple_head (sign.Text bs) h = refl
simple_head (sign.Name n) h = refl
simple_head (sign.Mark mark.Semicolon) h = absurd (h refl)
simple_head (sign.Mark mark.OpenBrace) h = absurd (h refl)
simple_head (sign.Mark _) h = refl
simple_head _ h = absurd h

-- the first terminal, of which P holds
pub record Front (P : Sign → Type 0) (ts : Terminals) : Type 0 where
  pub terminal : Terminal
  pub next : Terminals
  pub is : ts ≡ terminal ∷ next
  pub holds : P terminal.what

front_of : (P : Sign → Type 0) (s : Sign) (lines : List ℕ) (ms : Spelling) (ts rest : Terminals) → P s → Reads (put_on lines s ms) ts rest → Front P ts
front_of P s lines ms [] rest p h = absurd h
front_of P s lines ms (t ∷ ts) rest p h = record { terminal = t; next = ts; is = refl; holds = subst P (sym h.0) p }

expr_front : (P : Sign → Type 0) → ((s : Sign) → IsFirst s → P s) → (e : Expr) (ms : Spelling) (ts rest : Terminals) → Reads ((shape e).spelling ++ ms) ts rest → Front P ts
expr_front P f e ms ts rest h =
    let r = reads_split (shape e).spelling ms ts rest h in
    let o = expr_opens e ts r.0 r.1 in
    record { terminal = o.terminal; next = o.next; is = o.is; holds = f o.terminal.what o.first }

led_front : (P : Sign → Type 0) → ((s : Sign) → IsFirst s → P s) → (lines : List ℕ) (e : Expr) (ms : Spelling) (ts rest : Terminals) → Reads (first_on lines (shape e).spelling ++ ms) ts rest → Front P ts
led_front P f lines e ms ts rest h = let d = led lines e ms ts rest h in expr_front P f e ms ts rest d.reads

semicolon_first : PartFirst (sign.Mark mark.Semicolon)
unfolding same_mark
semicolon_first = mark_first mark.Semicolon refl

brace_first : PartFirst (sign.Mark mark.OpenBrace)
unfolding same_mark
brace_first = mark_first mark.OpenBrace refl

bump_first_terminal : (up : Bool) → PartFirst (sign.Mark (bump_mark up))
unfolding same_mark
bump_first_terminal true = mark_first mark.PlusPlus refl
bump_first_terminal false = mark_first mark.MinusMinus refl

key_first : (k : Keyword) → same_key k key.Else ≡ false → declares_sign (sign.Key k) ≡ false → PartFirst (sign.Key k)
key_first k e d = record { any = record { brace = refl; otherwise = e }; declares = d; cle = refl }

if_first : PartFirst (sign.Key key.If)
unfolding same_key
if_first = key_first key.If refl refl

while_first : PartFirst (sign.Key key.While)
unfolding same_key
while_first = key_first key.While refl refl

do_first : PartFirst (sign.Key key.Do)
unfolding same_key
do_first = key_first key.Do refl refl

for_first : PartFirst (sign.Key key.For)
unfolding same_key
for_first = key_first key.For refl refl

return_first : PartFirst (sign.Key key.Return)
unfolding same_key
return_first = key_first key.Return refl refl

break_first : PartFirst (sign.Key key.Break)
unfolding same_key
break_first = key_first key.Break refl refl

continue_first : PartFirst (sign.Key key.Continue)
unfolding same_key
continue_first = key_first key.Continue refl refl

part_front : (x : Act-F Act Stmt) (l c : ℕ) (ts rest : Terminals) → is_statement (act_step (stmt_shaped x) l c).form ≡ true → Reads (act_step (stmt_shaped x) l c).spelling ts rest → Front PartFirst ts
part_front act.Empty l c ts rest f h = front_of PartFirst (sign.Mark mark.Semicolon) (l ∷ c ∷ []) [] ts rest semicolon_first h
part_front (act.Block ss) l c ts rest f h = front_of PartFirst (sign.Mark mark.OpenBrace) (l ∷ c ∷ []) (statements (map stmt_shape ss)) ts rest brace_first h
part_front (act.Set op a b) l c ts rest f h = led_front PartFirst expr_first (l ∷ []) a _ ts rest (subst (λ (y : Spelling). Reads y ts rest) (append_assoc (first_on (l ∷ []) (shape a).spelling) (mark_at c (assign_mark op) (shape b).spelling) (put_mark mark.Semicolon [])) h)
part_front (act.Bump up true a) l c ts rest f h = front_of PartFirst (sign.Mark (bump_mark up)) (l ∷ c ∷ []) ((shape a).spelling ++ put_mark mark.Semicolon []) ts rest (bump_first_terminal up) h
part_front (act.Bump up false a) l c ts rest f h = led_front PartFirst expr_first (l ∷ []) a _ ts rest (subst (λ (y : Spelling). Reads y ts rest) (append_assoc (first_on (l ∷ []) (shape a).spelling) (mark_at c (bump_mark up) []) (put_mark mark.Semicolon [])) h)
part_front (act.Call a) l c ts rest f h = led_front PartFirst expr_first (l ∷ c ∷ []) a _ ts rest h
part_front (act.If t s None) l c ts rest f h = front_of PartFirst (sign.Key key.If) (l ∷ c ∷ []) (put_mark mark.OpenParen ((shape t).spelling ++ put_mark mark.CloseParen (stmt_shape s).spelling)) ts rest if_first h
part_front (act.If t s (Some u)) l c ts rest f h = front_of PartFirst (sign.Key key.If) (l ∷ c ∷ []) (put_mark mark.OpenParen ((shape t).spelling ++ put_mark mark.CloseParen ((stmt_shape s).spelling ++ put_key key.Else (stmt_shape u).spelling))) ts rest if_first h
part_front (act.While t s) l c ts rest f h = front_of PartFirst (sign.Key key.While) (l ∷ c ∷ []) (put_mark mark.OpenParen ((shape t).spelling ++ put_mark mark.CloseParen (stmt_shape s).spelling)) ts rest while_first h
part_front (act.DoWhile s t) l c ts rest f h = front_of PartFirst (sign.Key key.Do) (l ∷ c ∷ []) ((stmt_shape s).spelling ++ put_key key.While (put_mark mark.OpenParen ((shape t).spelling ++ put_mark mark.CloseParen (put_mark mark.Semicolon [])))) ts rest do_first h
part_front (act.For a b d s) l c ts rest f h =
    front_of PartFirst (sign.Key key.For) (l ∷ c ∷ []) (put_mark mark.OpenParen (head_first (option_map stmt_shape a) ++ (head_test b ++ put_mark mark.Semicolon (head_next (option_map stmt_shape d) ++ put_mark mark.CloseParen (stmt_shape s).spelling)))) ts rest for_first
    (subst (λ (y : StmtShape). Reads y.spelling ts rest) (for_is a b d s l c) h)
part_front (act.Return None) l c ts rest f h = front_of PartFirst (sign.Key key.Return) (l ∷ c ∷ []) (put_mark mark.Semicolon []) ts rest return_first h
part_front (act.Return (Some e)) l c ts rest f h = front_of PartFirst (sign.Key key.Return) (l ∷ c ∷ []) ((shape e).spelling ++ put_mark mark.Semicolon []) ts rest return_first h
part_front act.Break l c ts rest f h = front_of PartFirst (sign.Key key.Break) (l ∷ c ∷ []) (put_mark mark.Semicolon []) ts rest break_first h
part_front act.Continue l c ts rest f h = front_of PartFirst (sign.Key key.Continue) (l ∷ c ∷ []) (put_mark mark.Semicolon []) ts rest continue_first h
part_front (act.Declare d) l c ts rest f h = absurd cc
part_front (act.Cle p) l c ts rest f h = absurd cc

pub part_begins : (p : Stmt) (ts rest : Terminals) → is_statement (stmt_shape p).form ≡ true → Reads (stmt_shape p).spelling ts rest → Front PartFirst ts
part_begins p ts rest f h =
    let e = stmt_shape_is p in
    part_front (out-Act p.node) p.line p.second ts rest (subst (λ (y : StmtShape). is_statement y.form ≡ true) e f) (subst (λ (y : StmtShape). Reads y.spelling ts rest) e h)

front_after : (f : Fixed) (ts : Terminals) (P : Sign → Type 0) → ((s : Sign) → P s → is_fixed f s ≡ false) → Front P ts → after f ts ≡ None
front_after f ts P h w = subst (λ (y : Terminals). after f y ≡ None) (sym w.is) (no_terminal f w.next w.terminal (h w.terminal.what w.holds))

declares_not : (ts : Terminals) → Front PartFirst ts → declares_at ts ≡ false
unfolding declares_at
declares_not ts w = subst (λ (y : Terminals). declares_at y ≡ false) (sym w.is) (let h = w.holds in h.declares)

-- a terminal that begins a declaration
pub record DeclFirst (s : Sign) : Type 0 where
  pub any : AnyFirst s
  pub declares : declares_sign s ≡ true
  pub cle : is_cle s ≡ false

static_first : DeclFirst (sign.Key key.Static)
unfolding same_key
static_first = record { any = record { brace = refl; otherwise = refl }; declares = refl; cle = refl }

struct_first : DeclFirst (sign.Key key.Struct)
unfolding same_key
struct_first = record { any = record { brace = refl; otherwise = refl }; declares = refl; cle = refl }

base_front : (b : Base) (lines : List ℕ) (ms : Spelling) (ts rest : Terminals) → is_void b ≡ false → Reads (base_on lines b ms) ts rest → Front DeclFirst ts
base_front base.Void lines ms ts rest v h = absurd cc
base_front (base.Kind k) lines ms ts rest v h = front_of DeclFirst (sign.Kind k) lines ms ts rest (record { any = record { brace = refl; otherwise = refl }; declares = refl; cle = refl }) h
base_front base.Real lines ms ts rest v h = front_of DeclFirst sign.Real lines ms ts rest (record { any = record { brace = refl; otherwise = refl }; declares = refl; cle = refl }) h
base_front (base.Tag n) lines ms ts rest v h = front_of DeclFirst (sign.Key key.Struct) lines (put (sign.Name n) ms) ts rest struct_first h

unvoid : (b : Base) → not (is_void b) ≡ true → is_void b ≡ false
unvoid base.Void e = absurd cc
unvoid (base.Kind k) e = refl
unvoid base.Real e = refl
unvoid (base.Tag n) e = refl

-- a declaration's first terminal
declared_front : (b : Bool) (lines : List ℕ) (ds : List Declarator) (ms : Spelling) (ts rest : Terminals) → are_names true ds ≡ true → Reads (declared lines b ds ++ ms) ts rest → Front DeclFirst ts
declared_front true lines ds ms ts rest p h = front_of DeclFirst (sign.Key key.Static) _ _ ts rest static_first h
declared_front false lines ds ms ts rest p h = base_front (common_base ds) _ _ ts rest (unvoid (common_base ds) (and_elim _ _ p).0) (subst (λ (y : Spelling). Reads y ts rest) (base_append _ (common_base ds) _ ms) h)

part_any : (p : Stmt) (x : Act-F Act Stmt) → out-Act p.node ≡ x → (ts rest : Terminals) → is_statement (act_step (stmt_shaped x) p.line p.second).form ≡ true → Stated p ts rest → Front AnyFirst ts
part_any p x o ts rest f w =
    let g = part_front x p.line p.second ts rest f (subst (λ (y : StmtShape). Reads y.spelling ts rest) (stmt_open p x o) w.reads) in
    let h = g.holds in
    record { terminal = g.terminal; next = g.next; is = g.is; holds = h.any }

-- what a statement of a block begins with
listed_front : (p : Stmt) (x : Act-F Act Stmt) → out-Act p.node ≡ x → (ts rest : Terminals) → Stated p ts rest → Front AnyFirst ts
listed_front p (act.Declare d) o ts rest w =
    let e = stmt_open p (act.Declare d) o in
    let q = subst (λ (y : StmtShape). y.proper ≡ true) e w.proper in
    let r : Reads (declared (p.line ∷ p.second ∷ []) d.is_static d.names ++ put_mark mark.Semicolon []) ts rest = subst (λ (y : Spelling). Reads (y ++ put_mark mark.Semicolon []) ts rest) (declaration_open p.line p.second d) (subst (λ (y : StmtShape). Reads y.spelling ts rest) e w.reads) in
    let f = declared_front d.is_static (p.line ∷ p.second ∷ []) d.names (put_mark mark.Semicolon []) ts rest (declaration_names d q) r in
    let h = f.holds in
    record { terminal = f.terminal; next = f.next; is = f.is; holds = h.any }
listed_front p (act.Cle g) o ts rest w =
    front_of AnyFirst (sign.Cle g) (p.line ∷ p.second ∷ []) [] ts rest (record { brace = refl; otherwise = refl }) (subst (λ (y : StmtShape). Reads y.spelling ts rest) (stmt_open p (act.Cle g) o) w.reads)
listed_front p act.Empty o ts rest w = part_any p _ o ts rest refl w
listed_front p (act.Block ss) o ts rest w = part_any p _ o ts rest refl w
listed_front p (act.Set op a b) o ts rest w = part_any p _ o ts rest refl w
listed_front p (act.Bump up true a) o ts rest w = part_any p _ o ts rest refl w
listed_front p (act.Bump up false a) o ts rest w = part_any p _ o ts rest refl w
listed_front p (act.Call a) o ts rest w = part_any p _ o ts rest refl w
listed_front p (act.If c s None) o ts rest w = part_any p _ o ts rest refl w
listed_front p (act.If c s (Some t)) o ts rest w = part_any p _ o ts rest refl w
listed_front p (act.While c s) o ts rest w = part_any p _ o ts rest refl w
listed_front p (act.DoWhile s c) o ts rest w = part_any p _ o ts rest refl w
listed_front p (act.For a b c s) o ts rest w = part_any p _ o ts rest refl w
listed_front p (act.Return None) o ts rest w = part_any p _ o ts rest refl w
listed_front p (act.Return (Some e)) o ts rest w = part_any p _ o ts rest refl w
listed_front p act.Break o ts rest w = part_any p _ o ts rest refl w
listed_front p act.Continue o ts rest w = part_any p _ o ts rest refl w

-- ---- the parts of statements

abbrev pub StmtComplete : StmtReader → ℕ → Type 0
StmtComplete S n = (p : Stmt) (ts rest : Terminals) → length ts < n → Part p ts rest → S ts ≡ Some (p, rest)

abbrev pub ListedComplete : StmtReader → ℕ → Type 0
ListedComplete L n = (p : Stmt) (ts rest : Terminals) → length ts < n → Stated p ts rest → L ts ≡ Some (p, rest)

semicolon_ends : IsEnd (sign.Mark mark.Semicolon)
unfolding same_mark
semicolon_ends = (refl, refl)

-- a test that is spelled
record Tested (E : Reader) (c : Expr) (ms : Spelling) (ts rest : Terminals) : Type 0 where
  pub next : Terminals
  pub found : test_at E ts ≡ Some (c, next)
  pub reads : Reads ms next rest
  pub less : length next < length ts

test_read : (E : Reader) (n : ℕ) → Complete E n → (c : Expr) (ms : Spelling) (ts rest : Terminals) → length ts < n → (shape c).proper ≡ true → Reads (put_mark mark.OpenParen ((shape c).spelling ++ put_mark mark.CloseParen ms)) ts rest → Tested E c ms ts rest
unfolding test_at
test_read E n all c ms ts rest lt p h =
    let o = after_reads opening [] ((shape c).spelling ++ put_mark mark.CloseParen ms) ts rest h in
    let l1 = o.less in
    let b = before_sign E n all c close [] ms o.next rest (omega arith) p close_ends o.reads in
    let l2 = b.less in
    let d = b.stands in
    let l3 = d.less in
    record { next = d.next; found = rw (o.found, b.found, d.found) refl; reads = d.reads; less = omega arith }

-- an expression that may be left out, and its `;`
record Valued (E : Reader) (v : Option Expr) (ms : Spelling) (ts rest : Terminals) : Type 0 where
  pub next : Terminals
  pub found : value_at E ts ≡ Some (v, next)
  pub reads : Reads ms next rest
  pub less : length next < length ts

value_read : (E : Reader) (n : ℕ) → Complete E n → (v : Option Expr) (ms : Spelling) (ts rest : Terminals) → length ts < n → is_test v ≡ true → Reads (head_test v ++ put_mark mark.Semicolon ms) ts rest → Valued E v ms ts rest
unfolding value_at
value_read E n all None ms ts rest lt p h =
    let c = after_reads semicolon [] ms ts rest h in
    let l = c.less in
    record { next = c.next; found = rw c.found refl; reads = c.reads; less = omega arith }
value_read E n all (Some e) ms ts rest lt p h =
    let r = reads_split (shape e).spelling (put_mark mark.Semicolon ms) ts rest h in
    let b = before_sign E n all e semicolon [] ms ts rest lt p semicolon_ends h in
    let l1 = b.less in
    let d = b.stands in
    let l2 = d.less in
    record { next = d.next; found = rw (starts_not semicolon refl e ts r.0 r.1, b.found, d.found) refl; reads = d.reads; less = omega arith }

-- a statement before a sign
before_is : (S : StmtReader) (p : Stmt) (f : Fixed) (ts mid next : Terminals) (line : ℕ) → S ts ≡ Some (p, mid) → after f mid ≡ Some (line, next) → before (S ts) f ≡ Some (p, next)
before_is S p f ts mid next line e g = rw (e, g) refl

-- the last part of the head of a `for`
record Nexted (E : Reader) (s : Option Stmt) (ms : Spelling) (ts rest : Terminals) : Type 0 where
  pub next : Terminals
  pub found : next_at E ts ≡ Some (s, next)
  pub reads : Reads ms next rest
  pub less : length next < length ts

simple_form : (f : Form) → is_simple f ≡ true → f ≡ simple
simple_form simple e = refl
simple_form _ e = absurd cc

-- what a simple statement begins with
pub record SimpleFirst (s : Sign) : Type 0 where
  pub part : PartFirst s
  pub close : is_fixed close s ≡ false
  pub semicolon : is_fixed semicolon s ≡ false
  pub head : sign_head s ≡ head.Simple

fixed_not : (m : Mark) → start_of m ≡ start.Nothing → (s : Sign) → IsFirst s → is_fixed (fixed.Mark m) s ≡ false
unfolding mark_start
fixed_not m q s h = differs (is_fixed (fixed.Mark m) s) refl
  where
    not_first : IsFirst (sign.Mark m) → ⊥
    not_first g = g q

    differs : (b : Bool) → is_fixed (fixed.Mark m) s ≡ b → is_fixed (fixed.Mark m) s ≡ false
    differs true e = absurd (not_first (subst IsFirst (is_fixed_true (fixed.Mark m) s e) h))
    differs false e = e

simple_first : (s : Sign) → IsFirst s → SimpleFirst s
simple_first s h = record { part = expr_first s h; close = fixed_not mark.CloseParen refl s h; semicolon = fixed_not mark.Semicolon refl s h; head = simple_head s h }

bump_simple : (up : Bool) → SimpleFirst (sign.Mark (bump_mark up))
unfolding same_mark
bump_simple true = record { part = bump_first_terminal true; close = refl; semicolon = refl; head = refl }
bump_simple false = record { part = bump_first_terminal false; close = refl; semicolon = refl; head = refl }

simple_front : (x : Act-F Act Stmt) (l c : ℕ) (ms : Spelling) (ts rest : Terminals) → (act_step (stmt_shaped x) l c).form ≡ simple → Reads ((act_step (stmt_shaped x) l c).bare ++ ms) ts rest → Front SimpleFirst ts
simple_front (act.Set op a b) l z ms ts rest f h = led_front SimpleFirst simple_first (l ∷ []) a _ ts rest (subst (λ (y : Spelling). Reads y ts rest) (append_assoc (first_on (l ∷ []) (shape a).spelling) (mark_at z (assign_mark op) (shape b).spelling) ms) h)
simple_front (act.Bump up true a) l z ms ts rest f h = front_of SimpleFirst (sign.Mark (bump_mark up)) (l ∷ z ∷ []) ((shape a).spelling ++ ms) ts rest (bump_simple up) h
simple_front (act.Bump up false a) l z ms ts rest f h = led_front SimpleFirst simple_first (l ∷ []) a _ ts rest (subst (λ (y : Spelling). Reads y ts rest) (append_assoc (first_on (l ∷ []) (shape a).spelling) (mark_at z (bump_mark up) []) ms) h)
simple_front (act.Call a) l z ms ts rest f h = led_front SimpleFirst simple_first (l ∷ z ∷ []) a ms ts rest h
simple_front act.Empty l z ms ts rest f h = absurd cc
simple_front (act.Block ss) l z ms ts rest f h = absurd cc
simple_front (act.If c s None) l z ms ts rest f h = absurd cc
simple_front (act.If c s (Some t)) l z ms ts rest f h = absurd cc
simple_front (act.While c s) l z ms ts rest f h = absurd cc
simple_front (act.DoWhile s c) l z ms ts rest f h = absurd cc
simple_front (act.For a b c s) l z ms ts rest f h = absurd cc
simple_front (act.Return None) l z ms ts rest f h = absurd cc
simple_front (act.Return (Some e)) l z ms ts rest f h = absurd cc
simple_front act.Break l z ms ts rest f h = absurd cc
simple_front act.Continue l z ms ts rest f h = absurd cc
simple_front (act.Declare d) l z ms ts rest f h = absurd cc
simple_front (act.Cle g) l z ms ts rest f h = absurd cc

pub simple_begins : (p : Stmt) → (stmt_shape p).form ≡ simple → (ms : Spelling) (ts rest : Terminals) → Reads ((stmt_shape p).bare ++ ms) ts rest → Front SimpleFirst ts
simple_begins p f ms ts rest h =
    let e = stmt_shape_is p in
    simple_front (out-Act p.node) p.line p.second ms ts rest (subst (λ (y : StmtShape). y.form ≡ simple) e f) (subst (λ (y : StmtShape). Reads (y.bare ++ ms) ts rest) e h)

-- what stands before a `;`
head_spelling : (x : Act-F Act Stmt) (l c : ℕ) → is_head (act_step (stmt_shaped x) l c).form ≡ true → (act_step (stmt_shaped x) l c).spelling ≡ (act_step (stmt_shaped x) l c).bare ++ put_mark mark.Semicolon []
head_spelling act.Empty l z h = absurd cc
head_spelling (act.Block ss) l z h = absurd cc
head_spelling (act.Set op a b) l z h = refl
head_spelling (act.Bump up true a) l z h = refl
head_spelling (act.Bump up false a) l z h = refl
head_spelling (act.Call a) l z h = refl
head_spelling (act.If c s None) l z h = absurd cc
head_spelling (act.If c s (Some t)) l z h = absurd cc
head_spelling (act.While c s) l z h = absurd cc
head_spelling (act.DoWhile s c) l z h = absurd cc
head_spelling (act.For a b c s) l z h = absurd cc
head_spelling (act.Return None) l z h = absurd cc
head_spelling (act.Return (Some e)) l z h = absurd cc
head_spelling act.Break l z h = absurd cc
head_spelling act.Continue l z h = absurd cc
head_spelling (act.Declare d) l z h = refl
head_spelling (act.Cle g) l z h = absurd cc

pub spelling_bare : (p : Stmt) → is_head (stmt_shape p).form ≡ true → (stmt_shape p).spelling ≡ (stmt_shape p).bare ++ put_mark mark.Semicolon []
spelling_bare p h = let e = stmt_shape_is p in subst (λ (y : StmtShape). y.spelling ≡ y.bare ++ put_mark mark.Semicolon []) (sym e) (head_spelling (out-Act p.node) p.line p.second (subst (λ (y : StmtShape). is_head y.form ≡ true) e h))

-- a declaration is one by its form
pub record Declares (p : Stmt) : Type 0 where
  pub declaration : Declaration
  pub is : out-Act p.node ≡ act.Declare declaration

declares_step : (p : Stmt) (x : Act-F Act Stmt) → out-Act p.node ≡ x → (act_step (stmt_shaped x) p.line p.second).form ≡ declares → Declares p
declares_step p act.Empty o h = absurd cc
declares_step p (act.Block ss) o h = absurd cc
declares_step p (act.Set op a b) o h = absurd cc
declares_step p (act.Bump up true a) o h = absurd cc
declares_step p (act.Bump up false a) o h = absurd cc
declares_step p (act.Call a) o h = absurd cc
declares_step p (act.If c s None) o h = absurd cc
declares_step p (act.If c s (Some t)) o h = absurd cc
declares_step p (act.While c s) o h = absurd cc
declares_step p (act.DoWhile s c) o h = absurd cc
declares_step p (act.For a b c s) o h = absurd cc
declares_step p (act.Return None) o h = absurd cc
declares_step p (act.Return (Some e)) o h = absurd cc
declares_step p act.Break o h = absurd cc
declares_step p act.Continue o h = absurd cc
declares_step p (act.Declare d) o h = record { declaration = d; is = o }
declares_step p (act.Cle g) o h = absurd cc

declares_form : (p : Stmt) → (stmt_shape p).form ≡ declares → Declares p
declares_form p h = declares_step p (out-Act p.node) refl (subst (λ (y : StmtShape). y.form ≡ declares) (stmt_shape_is p) h)

next_read : (E : Reader) (n : ℕ) → Complete E n → (s : Option Stmt) (ms : Spelling) (ts rest : Terminals) → length ts < n → is_next (option_map stmt_shape s) ≡ true → Reads (head_next (option_map stmt_shape s) ++ put_mark mark.CloseParen ms) ts rest → Nexted E s ms ts rest
unfolding next_at
next_read E n all None ms ts rest lt p h =
    let c = after_reads close [] ms ts rest h in
    let l = c.less in
    record { next = c.next; found = rw c.found refl; reads = c.reads; less = omega arith }
next_read E n all (Some s) ms ts rest lt p h =
    let q = and_elim _ _ p in
    let f = simple_form (stmt_shape s).form q.0 in
    let r = simple_read E n all s f q.1 (put_mark mark.CloseParen ms) ts rest lt h (close_stop ms rest) in
    let c = after_reads close [] ms r.next rest r.reads in
    let l1 = r.less in
    let l2 = c.less in
    let w = simple_begins s f (put_mark mark.CloseParen ms) ts rest h in
    let none : after close ts ≡ None = front_after close ts SimpleFirst (λ x g. let k = g.close in k) w in
    record { next = c.next; found = rw (none, before_is (simple_at E) s close ts r.next c.next c.line r.found c.found) refl; reads = c.reads; less = omega arith }

-- ---- declarations and simple statements with their `;`

semicolon_comma : is_fixed comma (sign.Mark mark.Semicolon) ≡ false
unfolding same_mark
semicolon_comma = refl

pub semicolon_follows : (ms : Spelling) (rest : Terminals) → Follows (put_mark mark.Semicolon ms) rest
semicolon_follows ms rest = follows_stop (put_mark mark.Semicolon ms) rest (semicolon_stop ms rest) (λ ts h. not_other (sign.Mark mark.Semicolon) comma [] ms ts rest semicolon_comma h)

-- with its `;`
record WithEnd (S : StmtReader) (p : Stmt) (ms : Spelling) (ts rest : Terminals) : Type 0 where
  pub next : Terminals
  pub found : before (S ts) semicolon ≡ Some (p, next)
  pub reads : Reads ms next rest
  pub less : length next < length ts

with_end : (S : StmtReader) (p : Stmt) (ms : Spelling) (ts rest : Terminals) → LineRead S p (put_mark mark.Semicolon ms) ts rest → WithEnd S p ms ts rest
with_end S p ms ts rest r =
    let c = after_reads semicolon [] ms r.next rest r.reads in
    let l1 = r.less in
    let l2 = c.less in
    record { next = c.next; found = before_is S p semicolon ts r.next c.next c.line r.found c.found; reads = c.reads; less = omega arith }

simple_ended : (E : Reader) (n : ℕ) → Complete E n → (p : Stmt) → (stmt_shape p).form ≡ simple → (stmt_shape p).proper ≡ true → (ms : Spelling) (ts rest : Terminals) → length ts < n → Reads ((stmt_shape p).bare ++ put_mark mark.Semicolon ms) ts rest → WithEnd (simple_at E) p ms ts rest
simple_ended E n all p f proper ms ts rest lt h = with_end (simple_at E) p ms ts rest (simple_read E n all p f proper (put_mark mark.Semicolon ms) ts rest lt h (semicolon_stop ms rest))

declare_ended : (I : InitReader) (n : ℕ) → InitComplete I n → (p : Stmt) (d : Declares p) → (stmt_shape p).proper ≡ true → (ms : Spelling) (ts rest : Terminals) → length ts < n → Reads ((stmt_shape p).bare ++ put_mark mark.Semicolon ms) ts rest → WithEnd (declare_at I) p ms ts rest
declare_ended I n all p d proper ms ts rest lt h = with_end (declare_at I) p ms ts rest (declare_read I n all p d.declaration d.is proper (put_mark mark.Semicolon ms) ts rest lt (semicolon_follows ms rest) h)

-- a declaration begins as one
declare_begins : (p : Stmt) (d : Declares p) → (stmt_shape p).proper ≡ true → (ms : Spelling) (ts rest : Terminals) → Reads ((stmt_shape p).bare ++ ms) ts rest → Front DeclFirst ts
declare_begins p d proper ms ts rest h =
    let e = stmt_open p (act.Declare d.declaration) d.is in
    let q = subst (λ (y : StmtShape). y.proper ≡ true) e proper in
    let r : Reads (declared (p.line ∷ p.second ∷ []) d.declaration.is_static d.declaration.names ++ ms) ts rest = subst (λ (y : Spelling). Reads (y ++ ms) ts rest) (declaration_open p.line p.second d.declaration) (subst (λ (y : StmtShape). Reads (y.bare ++ ms) ts rest) e h) in
    declared_front d.declaration.is_static (p.line ∷ p.second ∷ []) d.declaration.names ms ts rest (declaration_names d.declaration q) r

declares_so : (ts : Terminals) → Front DeclFirst ts → declares_at ts ≡ true
unfolding declares_at
declares_so ts w = subst (λ (y : Terminals). declares_at y ≡ true) (sym w.is) (let h = w.holds in h.declares)

simple_not : (ts : Terminals) → Front SimpleFirst ts → declares_at ts ≡ false
unfolding declares_at
simple_not ts w = subst (λ (y : Terminals). declares_at y ≡ false) (sym w.is) (let h = w.holds in let k = h.part in k.declares)

-- ---- the head of a `for`

record Firsted (E : Reader) (I : InitReader) (s : Option Stmt) (ms : Spelling) (ts rest : Terminals) : Type 0 where
  pub next : Terminals
  pub found : first_at E I ts ≡ Some (s, next)
  pub reads : Reads ms next rest
  pub less : length next < length ts

decl_semicolon : (s : Sign) → DeclFirst s → is_fixed semicolon s ≡ false
decl_semicolon (sign.Mark m) h = let d = h.declares in absurd cc
decl_semicolon (sign.Integer v k) h = refl
decl_semicolon sign.Floating h = refl
decl_semicolon (sign.Letter b) h = refl
decl_semicolon (sign.Text bs) h = refl
decl_semicolon (sign.Name n) h = refl
decl_semicolon (sign.Key k) h = refl
decl_semicolon (sign.Kind k) h = refl
decl_semicolon sign.Real h = refl
decl_semicolon sign.NoType h = refl
decl_semicolon (sign.Cle p) h = refl

first_by : (E : Reader) (I : InitReader) (s : Stmt) (ts next : Terminals) (b : Bool) → declares_at ts ≡ b → after semicolon ts ≡ None → before (cond b (declare_at I ts) (simple_at E ts)) semicolon ≡ Some (s, next) → first_at E I ts ≡ Some (Some s, next)
unfolding first_at line_at
first_by E I s ts next b d none e = rw (none, d, e) refl

bare_then : (p : Stmt) (ms : Spelling) (ts rest : Terminals) → is_head (stmt_shape p).form ≡ true → Reads ((stmt_shape p).spelling ++ ms) ts rest → Reads ((stmt_shape p).bare ++ put_mark mark.Semicolon ms) ts rest
bare_then p ms ts rest f h = subst (λ (y : Spelling). Reads y ts rest) (append_assoc (stmt_shape p).bare (put_mark mark.Semicolon []) ms) (subst (λ (y : Spelling). Reads (y ++ ms) ts rest) (spelling_bare p f) h)

first_simple : (E : Reader) (n : ℕ) → Complete E n → (I : InitReader) (s : Stmt) → (stmt_shape s).form ≡ simple → (stmt_shape s).proper ≡ true → (ms : Spelling) (ts rest : Terminals) → length ts < n → Reads ((stmt_shape s).bare ++ put_mark mark.Semicolon ms) ts rest → Firsted E I (Some s) ms ts rest
first_simple E n all I s f p ms ts rest lt h =
    let r = simple_ended E n all s f p ms ts rest lt h in
    let w = simple_begins s f (put_mark mark.Semicolon ms) ts rest h in
    let less = r.less in
    record { next = r.next; found = first_by E I s ts r.next false (simple_not ts w) (front_after semicolon ts SimpleFirst (λ x g. let k = g.semicolon in k) w) r.found; reads = r.reads; less = less }

first_declares : (E : Reader) (I : InitReader) (n : ℕ) → InitComplete I n → (s : Stmt) → (stmt_shape s).form ≡ declares → (stmt_shape s).proper ≡ true → (ms : Spelling) (ts rest : Terminals) → length ts < n → Reads ((stmt_shape s).bare ++ put_mark mark.Semicolon ms) ts rest → Firsted E I (Some s) ms ts rest
first_declares E I n all s f p ms ts rest lt h =
    let d = declares_form s f in
    let r = declare_ended I n all s d p ms ts rest lt h in
    let w = declare_begins s d p (put_mark mark.Semicolon ms) ts rest h in
    let less = r.less in
    record { next = r.next; found = first_by E I s ts r.next true (declares_so ts w) (front_after semicolon ts DeclFirst decl_semicolon w) r.found; reads = r.reads; less = less }

head_cases : (f : Form) → is_head f ≡ true → (f ≡ simple) ⊎ (f ≡ declares)
head_cases simple e = inl refl
head_cases declares e = inr refl
head_cases pragma e = absurd cc
head_cases other e = absurd cc

first_read : (E : Reader) (n : ℕ) → Complete E n → (I : InitReader) → InitComplete I n → (s : Option Stmt) (ms : Spelling) (ts rest : Terminals) → length ts < n → is_first (option_map stmt_shape s) ≡ true → Reads (head_first (option_map stmt_shape s) ++ ms) ts rest → Firsted E I s ms ts rest
unfolding first_at
first_read E n all I inits None ms ts rest lt p h =
    let c = after_reads semicolon [] ms ts rest h in
    let l = c.less in
    record { next = c.next; found = rw c.found refl; reads = c.reads; less = omega arith }
first_read E n all I inits (Some s) ms ts rest lt p h =
    let q = and_elim _ _ p in
    let r = bare_then s ms ts rest q.0 h in
    elim (head_cases (stmt_shape s).form q.0) [
      | inl f ↦ first_simple E n all I s f q.1 ms ts rest lt r
      | inr f ↦ first_declares E I n inits s f q.1 ms ts rest lt r
    ]

-- ---- each form

-- by the head of its first terminal
by_head : (S L : StmtReader) (E : Reader) (I : InitReader) (h : Head) (f : Fixed) (l c : ℕ) (ms : Spelling) (ts rest : Terminals) (x : Option (Stmt × Terminals)) → sign_head (fixed_sign f) ≡ h → Reads (put_on (l ∷ c ∷ []) (fixed_sign f) ms) ts rest → ((here next : Terminals) → c ≡ l → length ts ≡ suc (length next) → Reads ms next rest → headed S L E I h l here next ≡ x) → stmt_of S L E I ts ≡ x
unfolding stmt_of
by_head S L E I h f l c ms [] rest x e r g = absurd r
by_head S L E I h f l c ms (t ∷ ts) rest x q r g =
    let k : sign_head t.what ≡ h = ap sign_head r.0 ∙ q in
    let e : headed S L E I h l (t ∷ ts) ts ≡ x = g (t ∷ ts) ts (sym r.1.1.0 ∙ r.1.0) refl r.2 in
    rw k (subst (λ (y : ℕ). headed S L E I h y (t ∷ ts) ts ≡ x) (sym r.1.0) e)

by_simple : (S L : StmtReader) (E : Reader) (I : InitReader) (ts : Terminals) (x : Option (Stmt × Terminals)) → Front SimpleFirst ts → before (simple_at E ts) semicolon ≡ x → stmt_of S L E I ts ≡ x
unfolding stmt_of headed
by_simple S L E I [] x w e = absurd (nothing w.terminal w.next w.is)
  where
    nothing : (t : Terminal) (ts : Terminals) → [] ≡ t ∷ ts → ⊥
    nothing t ts e = cc
by_simple S L E I (t ∷ ts) x w e =
    let h = w.holds in
    let same : t.what ≡ w.terminal.what = first_is t w.terminal ts w.next w.is in
    let k : sign_head t.what ≡ head.Simple = ap sign_head same ∙ h.head in
    rw k e
  where
    first_is : (t u : Terminal) (ts us : Terminals) → ◌≡◌ {A = Terminals} (t ∷ ts) (u ∷ us) → t.what ≡ u.what
    first_is t u ts us e = let f : t ≡ u = cc in ap (λ (y : Terminal). y.what) f

record Opened (l c : ℕ) (x : Act-F Act Stmt) (ts rest : Terminals) : Type 0 where
  pub reads : Reads (act_step (stmt_shaped x) l c).spelling ts rest
  pub proper : (act_step (stmt_shaped x) l c).proper ≡ true
  pub closed : (act_step (stmt_shaped x) l c).dangling ≡ true → NoElse rest

opened : (p : Stmt) (x : Act-F Act Stmt) (ts rest : Terminals) → out-Act p.node ≡ x → Stated p ts rest → Opened p.line p.second x ts rest
opened p x ts rest o h =
    let q = stmt_open p x o in
    record {
      reads = subst (λ (y : StmtShape). Reads y.spelling ts rest) q h.reads;
      proper = subst (λ (y : StmtShape). y.proper ≡ true) q h.proper;
      closed = subst (λ (y : StmtShape). y.dangling ≡ true → NoElse rest) q h.closed;
    }

-- a statement that was made with both of its lines alike
made_so : (p : Stmt) (x : Act-F Act Stmt) (n : Act) (rest : Terminals) → out-Act p.node ≡ x → roll-Act x ≡ n → p.second ≡ p.line → some_of {A = Stmt × Terminals} (stmt p.line p.line n, rest) ≡ some_of {A = Stmt × Terminals} (p, rest)
made_so p x n rest o r e = ap (λ (y : ℕ). some_of {A = Stmt × Terminals} (stmt p.line y n, rest)) (sym e) ∙ by_stmt p n rest (stmt_is p x n o r)

part_of : (s : Stmt) (ts rest : Terminals) → is_part (stmt_shape s) ≡ true → Reads (stmt_shape s).spelling ts rest → ((stmt_shape s).dangling ≡ true → NoElse rest) → Part s ts rest
part_of s ts rest p r c = let q = and_elim _ _ p in record { stated = record { reads = r; proper = q.1; closed = c }; form = q.0 }

if_none : (S : StmtReader) (n : ℕ) → StmtComplete S n → (E : Reader) (m : ℕ) → Complete E m → (c : Expr) (s : Stmt) (l : ℕ) (ts rest : Terminals) → length ts < n → length ts < m → (shape c).proper ≡ true → is_part (stmt_shape s) ≡ true → NoElse rest
    → Reads (put_mark mark.OpenParen ((shape c).spelling ++ put_mark mark.CloseParen (stmt_shape s).spelling)) ts rest → if_at S E l ts ≡ Some (stmt l l (made.If c s None), rest)
unfolding if_at
if_none S n both E m all c s l ts rest lt le pc ps none h =
    let t = test_read E m all c (stmt_shape s).spelling ts rest le pc h in
    let less = t.less in
    let u = both s t.next rest (omega arith) (part_of s t.next rest ps t.reads (λ _. none)) in
    rw (t.found, u, none) refl

if_some : (S : StmtReader) (n : ℕ) → StmtComplete S n → (E : Reader) (m : ℕ) → Complete E m → (c : Expr) (s o : Stmt) (l : ℕ) (ts rest : Terminals) → length ts < n → length ts < m → (shape c).proper ≡ true → is_part (stmt_shape s) ≡ true → not (stmt_shape s).dangling ≡ true → is_part (stmt_shape o) ≡ true → ((stmt_shape o).dangling ≡ true → NoElse rest)
    → Reads (put_mark mark.OpenParen ((shape c).spelling ++ put_mark mark.CloseParen ((stmt_shape s).spelling ++ put_key key.Else (stmt_shape o).spelling))) ts rest → if_at S E l ts ≡ Some (stmt l l (made.If c s (Some o)), rest)
unfolding if_at
if_some S n both E m all c s o l ts rest lt le pc ps ns po closed h =
    let t = test_read E m all c ((stmt_shape s).spelling ++ put_key key.Else (stmt_shape o).spelling) ts rest le pc h in
    let less = t.less in
    let r = reads_split (stmt_shape s).spelling (put_key key.Else (stmt_shape o).spelling) t.next rest t.reads in
    let short = reads_length (stmt_shape s).spelling t.next r.0 r.1 in
    let u = both s t.next r.0 (omega arith) (part_of s t.next r.0 ps r.1 (λ e. closed_not _ r.0 ns e)) in
    let a = after_reads else_key [] (stmt_shape o).spelling r.0 rest r.2 in
    let more = a.less in
    let v = both o a.next rest (omega arith) (part_of o a.next rest po a.reads closed) in
    rw (t.found, u, a.found, v) refl
  where
    closed_not : (b : Bool) (ts : Terminals) → not b ≡ true → b ≡ true → NoElse ts
    closed_not true ts e f = absurd cc
    closed_not false ts e f = absurd cc

while_read : (S : StmtReader) (n : ℕ) → StmtComplete S n → (E : Reader) (m : ℕ) → Complete E m → (c : Expr) (s : Stmt) (l : ℕ) (ts rest : Terminals) → length ts < n → length ts < m → (shape c).proper ≡ true → is_part (stmt_shape s) ≡ true → ((stmt_shape s).dangling ≡ true → NoElse rest)
    → Reads (put_mark mark.OpenParen ((shape c).spelling ++ put_mark mark.CloseParen (stmt_shape s).spelling)) ts rest → while_at S E l ts ≡ Some (stmt l l (made.While c s), rest)
unfolding while_at
while_read S n both E m all c s l ts rest lt le pc ps closed h =
    let t = test_read E m all c (stmt_shape s).spelling ts rest le pc h in
    let less = t.less in
    let u = both s t.next rest (omega arith) (part_of s t.next rest ps t.reads closed) in
    rw (t.found, u) refl

while_no_else : (ms : Spelling) (ts rest : Terminals) → Reads (put_key key.While ms) ts rest → NoElse ts
unfolding same_key
while_no_else ms ts rest h = not_other (sign.Key key.While) else_key [] ms ts rest refl h

do_read : (S : StmtReader) (n : ℕ) → StmtComplete S n → (E : Reader) (m : ℕ) → Complete E m → (s : Stmt) (c : Expr) (l : ℕ) (ts rest : Terminals) → length ts < n → length ts < m → is_part (stmt_shape s) ≡ true → (shape c).proper ≡ true
    → Reads ((stmt_shape s).spelling ++ put_key key.While (put_mark mark.OpenParen ((shape c).spelling ++ put_mark mark.CloseParen (put_mark mark.Semicolon [])))) ts rest → do_at S E l ts ≡ Some (stmt l l (made.DoWhile s c), rest)
unfolding do_at
do_read S n both E m all s c l ts rest lt le ps pc h =
    let tests : Spelling = put_mark mark.OpenParen ((shape c).spelling ++ put_mark mark.CloseParen (put_mark mark.Semicolon [])) in
    let r = reads_split (stmt_shape s).spelling (put_key key.While tests) ts rest h in
    let short = reads_length (stmt_shape s).spelling ts r.0 r.1 in
    let u = both s ts r.0 lt (part_of s ts r.0 ps r.1 (λ _. while_no_else tests r.0 rest r.2)) in
    let w = after_reads (fixed.Key key.While) [] tests r.0 rest r.2 in
    let l1 = w.less in
    let t = test_read E m all c (put_mark mark.Semicolon []) w.next rest (omega arith) pc w.reads in
    let d = after_reads semicolon [] [] t.next rest t.reads in
    rw (u, w.found, t.found, d.found, d.reads) refl

for_read : (S : StmtReader) (n : ℕ) → StmtComplete S n → (E : Reader) (m : ℕ) → Complete E m → (I : InitReader) → InitComplete I m → (a : Option Stmt) (b : Option Expr) (c : Option Stmt) (s : Stmt) (l : ℕ) (ts rest : Terminals) → length ts < n → length ts < m
    → is_first (option_map stmt_shape a) ≡ true → is_test b ≡ true → is_next (option_map stmt_shape c) ≡ true → is_part (stmt_shape s) ≡ true → ((stmt_shape s).dangling ≡ true → NoElse rest)
    → Reads (put_mark mark.OpenParen (head_first (option_map stmt_shape a) ++ (head_test b ++ put_mark mark.Semicolon (head_next (option_map stmt_shape c) ++ put_mark mark.CloseParen (stmt_shape s).spelling)))) ts rest → for_at S E I l ts ≡ Some (stmt l l (made.For a b c s), rest)
unfolding for_at
for_read S n both E m all I inits a b c s l ts rest lt le pa pb pc ps closed h =
    let third : Spelling = head_next (option_map stmt_shape c) ++ put_mark mark.CloseParen (stmt_shape s).spelling in
    let second : Spelling = head_test b ++ put_mark mark.Semicolon third in
    let o = after_reads opening [] (head_first (option_map stmt_shape a) ++ second) ts rest h in
    let l0 = o.less in
    let x = first_read E m all I inits a second o.next rest (omega arith) pa o.reads in
    let l1 = x.less in
    let y = value_read E m all b third x.next rest (omega arith) pb x.reads in
    let l2 = y.less in
    let z = next_read E m all c (stmt_shape s).spelling y.next rest (omega arith) pc y.reads in
    let l3 = z.less in
    let u = both s z.next rest (omega arith) (part_of s z.next rest ps z.reads closed) in
    rw (o.found, x.found, y.found, z.found, u) refl

return_read : (E : Reader) (m : ℕ) → Complete E m → (v : Option Expr) (l : ℕ) (ts rest : Terminals) → length ts < m → is_test v ≡ true → Reads (head_test v ++ put_mark mark.Semicolon []) ts rest → return_at E l ts ≡ Some (stmt l l (made.Return v), rest)
unfolding return_at
return_read E m all v l ts rest lt p h = let r = value_read E m all v [] ts rest lt p h in rw (r.found, r.reads) refl

jump_read : (n : Act) (l : ℕ) (ts rest : Terminals) → Reads (put_mark mark.Semicolon []) ts rest → jump_at n l ts ≡ Some (stmt l l n, rest)
unfolding jump_at
jump_read n l ts rest h = let d = after_reads semicolon [] [] ts rest h in rw (d.found, d.reads) refl

-- ---- blocks

block_no_else : (ss : List Stmt) (ts rest : Terminals) → all_stmts (map stmt_shape ss) ≡ true → Reads (statements (map stmt_shape ss)) ts rest → NoElse ts
unfolding same_key
block_no_else [] ts rest p h = not_other (sign.Mark mark.CloseBrace) else_key [] [] ts rest refl h
block_no_else (s ∷ ss) ts rest p h =
    let q = and_elim _ _ p in
    let r = reads_split (stmt_shape s).spelling (statements (map stmt_shape ss)) ts rest (subst (λ (y : Spelling). Reads y ts rest) (append_assoc (stmt_shape s).spelling (flat_map (λ s. s) (map (λ s. s.spelling) (map stmt_shape ss))) (put_mark mark.CloseBrace [])) h) in
    let w = listed_front s (out-Act s.node) refl ts r.0 (record { reads = r.1; proper = q.0; closed = λ _. block_no_else ss r.0 rest q.1 r.2 }) in
    front_after else_key ts AnyFirst (λ x g. let k = g.otherwise in k) w

-- a statement has a terminal
stated_long : (s : Stmt) (ts mid : Terminals) → Stated s ts mid → length mid < length ts
stated_long s ts mid w = longer (stmt_shape s).spelling refl w.reads
  where
    empty_front : Front AnyFirst [] → ⊥
    empty_front f = nothing f.terminal f.next f.is
      where
        nothing : (t : Terminal) (us : Terminals) → [] ≡ t ∷ us → ⊥
        nothing t us e = cc

    longer : (ms : Spelling) → (stmt_shape s).spelling ≡ ms → Reads ms ts mid → length mid < length ts
    longer [] e h = absurd (empty_front (listed_front s (out-Act s.node) refl [] [] (record { reads = subst (λ (y : Spelling). Reads y [] []) (sym e) refl; proper = w.proper; closed = λ _. no_terminals else_key })))
    longer (m ∷ ms) e h = let l = reads_length (m ∷ ms) ts mid h in omega arith

pub block_read : (L : StmtReader) (n : ℕ) → ListedComplete L n → (m : ℕ) (done ss : List Stmt) (ts rest : Terminals) → length ts < n → length ts < m → all_stmts (map stmt_shape ss) ≡ true → Reads (statements (map stmt_shape ss)) ts rest → block_at L m done ts ≡ Some (done ++ ss, rest)
unfolding block_at
block_read L n all zero done ss ts rest lt le p h = absurd (omega arith)
block_read L n all (suc m) done [] ts rest lt le p h =
    let a = after_reads close_brace [] [] ts rest h in
    rw a.found (some_pair _ _ _ _ (sym (append-nil done)) a.reads)
block_read L n all (suc m) done (s ∷ ss) ts rest lt le p h =
    let q = and_elim _ _ p in
    let r = reads_split (stmt_shape s).spelling (statements (map stmt_shape ss)) ts rest (subst (λ (y : Spelling). Reads y ts rest) (append_assoc (stmt_shape s).spelling (flat_map (λ s. s) (map (λ s. s.spelling) (map stmt_shape ss))) (put_mark mark.CloseBrace [])) h) in
    let stated : Stated s ts r.0 = record { reads = r.1; proper = q.0; closed = λ _. block_no_else ss r.0 rest q.1 r.2 } in
    let w = listed_front s (out-Act s.node) refl ts r.0 stated in
    let none = front_after close_brace ts AnyFirst (λ x g. let k = g.brace in k) w in
    let one = all s ts r.0 lt stated in
    let long = stated_long s ts r.0 stated in
    let more = block_read L n all m (done ++ s ∷ []) ss r.0 rest (omega arith) (omega arith) q.1 r.2 in
    rw (none, one, more) (rw append_assoc refl)

-- ---- all forms

simple_goes : (S L : StmtReader) (E : Reader) (I : InitReader) (m : ℕ) → Complete E m → (p : Stmt) → (stmt_shape p).form ≡ simple → (ts rest : Terminals) → length ts < m → Stated p ts rest → stmt_of S L E I ts ≡ Some (p, rest)
simple_goes S L E I m all p f ts rest lt h =
    let hd : is_head (stmt_shape p).form ≡ true = subst (λ (y : Form). is_head y ≡ true) (sym f) refl in
    let r : Reads ((stmt_shape p).bare ++ put_mark mark.Semicolon []) ts rest = subst (λ (y : Spelling). Reads y ts rest) (spelling_bare p hd) h.reads in
    let w = simple_ended E m all p f h.proper [] ts rest lt r in
    by_simple S L E I ts _ (simple_begins p f (put_mark mark.Semicolon []) ts rest r) (w.found ∙ ap (λ (y : Terminals). some_of {A = Stmt × Terminals} (p, y)) w.reads)

form_of : (p : Stmt) (x : Act-F Act Stmt) (f : Form) → out-Act p.node ≡ x → (act_step (stmt_shaped x) p.line p.second).form ≡ f → (stmt_shape p).form ≡ f
form_of p x f o e = subst (λ (y : StmtShape). y.form ≡ f) (sym (stmt_open p x o)) e

stmt_goes : (S : StmtReader) (n : ℕ) → StmtComplete S n → (L : StmtReader) → ListedComplete L n → (E : Reader) (m : ℕ) → Complete E m → (I : InitReader) → InitComplete I m → (p : Stmt) (x : Act-F Act Stmt) → out-Act p.node ≡ x → (ts rest : Terminals) → length ts < suc n → length ts < m → Part p ts rest → stmt_of S L E I ts ≡ Some (p, rest)
unfolding headed
stmt_goes S n both L every E m all I inits p (act.Set op a b) o ts rest lt le h = simple_goes S L E I m all p (form_of p _ simple o refl) ts rest le h.stated
stmt_goes S n both L every E m all I inits p (act.Bump up true a) o ts rest lt le h = simple_goes S L E I m all p (form_of p _ simple o refl) ts rest le h.stated
stmt_goes S n both L every E m all I inits p (act.Bump up false a) o ts rest lt le h = simple_goes S L E I m all p (form_of p _ simple o refl) ts rest le h.stated
stmt_goes S n both L every E m all I inits p (act.Call a) o ts rest lt le h = simple_goes S L E I m all p (form_of p _ simple o refl) ts rest le h.stated
stmt_goes S n both L every E m all I inits p act.Empty o ts rest lt le h =
    let w = opened p act.Empty ts rest o h.stated in
    by_head S L E I head.Empty semicolon p.line p.second [] ts rest _ refl w.reads (λ here next same less r. ap (λ (y : Terminals). some_of {A = Stmt × Terminals} (stmt p.line p.line made.Empty, y)) r ∙ made_so p _ _ rest o rolls-Empty same)
stmt_goes S n both L every E m all I inits p (act.Block ss) o ts rest lt le h =
    let w = opened p (act.Block ss) ts rest o h.stated in
    by_head S L E I head.Block open_brace p.line p.second (statements (map stmt_shape ss)) ts rest _ refl w.reads
    (λ here next same less r. let b = block_read L n every (suc (length next)) [] ss next rest (omega arith) (omega arith) w.proper r in rw b (made_so p _ _ rest o (rolls-Block ss) same))
stmt_goes S n both L every E m all I inits p (act.If c s None) o ts rest lt le h =
    let w = opened p (act.If c s None) ts rest o h.stated in
    let v = and_elim _ _ w.proper in
    by_head S L E I head.If (fixed.Key key.If) p.line p.second (put_mark mark.OpenParen ((shape c).spelling ++ put_mark mark.CloseParen (stmt_shape s).spelling)) ts rest _ refl w.reads
    (λ here next same less r. if_none S n both E m all c s p.line next rest (omega arith) (omega arith) v.0 v.1 (w.closed refl) r ∙ made_so p _ _ rest o (rolls-If c s None) same)
stmt_goes S n both L every E m all I inits p (act.If c s (Some t)) o ts rest lt le h =
    let w = opened p (act.If c s (Some t)) ts rest o h.stated in
    let v = and_elim _ _ w.proper in
    let u = and_elim _ _ v.1 in
    let k = and_elim _ _ u.1 in
    by_head S L E I head.If (fixed.Key key.If) p.line p.second (put_mark mark.OpenParen ((shape c).spelling ++ put_mark mark.CloseParen ((stmt_shape s).spelling ++ put_key key.Else (stmt_shape t).spelling))) ts rest _ refl w.reads
    (λ here next same less r. if_some S n both E m all c s t p.line next rest (omega arith) (omega arith) v.0 k.0 u.0 k.1 w.closed r ∙ made_so p _ _ rest o (rolls-If c s (Some t)) same)
stmt_goes S n both L every E m all I inits p (act.While c s) o ts rest lt le h =
    let w = opened p (act.While c s) ts rest o h.stated in
    let v = and_elim _ _ w.proper in
    by_head S L E I head.While (fixed.Key key.While) p.line p.second (put_mark mark.OpenParen ((shape c).spelling ++ put_mark mark.CloseParen (stmt_shape s).spelling)) ts rest _ refl w.reads
    (λ here next same less r. while_read S n both E m all c s p.line next rest (omega arith) (omega arith) v.0 v.1 w.closed r ∙ made_so p _ _ rest o (rolls-While c s) same)
stmt_goes S n both L every E m all I inits p (act.DoWhile s c) o ts rest lt le h =
    let w = opened p (act.DoWhile s c) ts rest o h.stated in
    let v = and_elim _ _ w.proper in
    by_head S L E I head.Do (fixed.Key key.Do) p.line p.second ((stmt_shape s).spelling ++ put_key key.While (put_mark mark.OpenParen ((shape c).spelling ++ put_mark mark.CloseParen (put_mark mark.Semicolon [])))) ts rest _ refl w.reads
    (λ here next same less r. do_read S n both E m all s c p.line next rest (omega arith) (omega arith) v.0 v.1 r ∙ made_so p _ _ rest o (rolls-DoWhile s c) same)
stmt_goes S n both L every E m all I inits p (act.For a b c s) o ts rest lt le h =
    let w = opened p (act.For a b c s) ts rest o h.stated in
    let f = for_is a b c s p.line p.second in
    let proper = subst (λ (y : StmtShape). y.proper ≡ true) f w.proper in
    let reads = subst (λ (y : StmtShape). Reads y.spelling ts rest) f w.reads in
    let closed = subst (λ (y : StmtShape). y.dangling ≡ true → NoElse rest) f w.closed in
    let v = and_elim _ _ proper in
    let u = and_elim _ _ v.1 in
    let k = and_elim _ _ u.1 in
    by_head S L E I head.For (fixed.Key key.For) p.line p.second (put_mark mark.OpenParen (head_first (option_map stmt_shape a) ++ (head_test b ++ put_mark mark.Semicolon (head_next (option_map stmt_shape c) ++ put_mark mark.CloseParen (stmt_shape s).spelling)))) ts rest _ refl reads
    (λ here next same less r. for_read S n both E m all I inits a b c s p.line next rest (omega arith) (omega arith) v.0 u.0 k.0 k.1 closed r ∙ made_so p _ _ rest o (rolls-For a b c s) same)
stmt_goes S n both L every E m all I inits p (act.Return None) o ts rest lt le h =
    let w = opened p (act.Return None) ts rest o h.stated in
    by_head S L E I head.Return (fixed.Key key.Return) p.line p.second (put_mark mark.Semicolon []) ts rest _ refl w.reads
    (λ here next same less r. return_read E m all None p.line next rest (omega arith) refl r ∙ made_so p _ _ rest o (rolls-Return None) same)
stmt_goes S n both L every E m all I inits p (act.Return (Some e)) o ts rest lt le h =
    let w = opened p (act.Return (Some e)) ts rest o h.stated in
    by_head S L E I head.Return (fixed.Key key.Return) p.line p.second ((shape e).spelling ++ put_mark mark.Semicolon []) ts rest _ refl w.reads
    (λ here next same less r. return_read E m all (Some e) p.line next rest (omega arith) w.proper r ∙ made_so p _ _ rest o (rolls-Return (Some e)) same)
stmt_goes S n both L every E m all I inits p act.Break o ts rest lt le h =
    let w = opened p act.Break ts rest o h.stated in
    by_head S L E I head.Break (fixed.Key key.Break) p.line p.second (put_mark mark.Semicolon []) ts rest _ refl w.reads
    (λ here next same less r. jump_read made.Break p.line next rest r ∙ made_so p _ _ rest o rolls-Break same)
stmt_goes S n both L every E m all I inits p act.Continue o ts rest lt le h =
    let w = opened p act.Continue ts rest o h.stated in
    by_head S L E I head.Continue (fixed.Key key.Continue) p.line p.second (put_mark mark.Semicolon []) ts rest _ refl w.reads
    (λ here next same less r. jump_read made.Continue p.line next rest r ∙ made_so p _ _ rest o rolls-Continue same)
stmt_goes S n both L every E m all I inits p (act.Declare d) o ts rest lt le h =
    let f : is_statement declares ≡ true = subst (λ (y : Form). is_statement y ≡ true) (form_of p _ declares o refl) h.form in absurd cc
stmt_goes S n both L every E m all I inits p (act.Cle g) o ts rest lt le h =
    let f : is_statement pragma ≡ true = subst (λ (y : Form). is_statement y ≡ true) (form_of p _ pragma o refl) h.form in absurd cc

-- ---- one of a block's statements

listed_by : (S : StmtReader) (I : InitReader) (s : Sign) (l : ℕ) (here next : Terminals) (x : Option (Stmt × Terminals)) → is_cle s ≡ false → cond (declares_at here) (before (declare_at I here) semicolon) (S here) ≡ x → listed_step S I l s here next ≡ x
listed_by S I (sign.Cle p) l here next x c e = absurd cc
listed_by S I _ l here next x c e = e

listed_at : (S : StmtReader) (I : InitReader) (ts : Terminals) (x : Option (Stmt × Terminals)) (P : Sign → Type 0) → ((s : Sign) → P s → is_cle s ≡ false) → Front P ts → cond (declares_at ts) (before (declare_at I ts) semicolon) (S ts) ≡ x → listed_of S I ts ≡ x
unfolding listed_of
listed_at S I [] x P f w e = absurd (nothing w.terminal w.next w.is)
  where
    nothing : (t : Terminal) (us : Terminals) → [] ≡ t ∷ us → ⊥
    nothing t us e = cc
listed_at S I (t ∷ ts) x P f w e = listed_by S I t.what t.line (t ∷ ts) ts x (subst (λ (y : Sign). is_cle y ≡ false) (sym (first_is t w.terminal ts w.next w.is)) (f w.terminal.what w.holds)) e
  where
    first_is : (t u : Terminal) (ts us : Terminals) → ◌≡◌ {A = Terminals} (t ∷ ts) (u ∷ us) → t.what ≡ u.what
    first_is t u ts us e = let g : t ≡ u = cc in ap (λ (y : Terminal). y.what) g

cle_read : (S : StmtReader) (I : InitReader) (p : Stmt) (g : Pragma) → out-Act p.node ≡ act.Cle g → (ts rest : Terminals) → Stated p ts rest → listed_of S I ts ≡ Some (p, rest)
unfolding listed_of
cle_read S I p g o [] rest h = absurd ((opened p (act.Cle g) [] rest o h).reads)
cle_read S I p g o (t ∷ ts) rest h =
    let w = opened p (act.Cle g) (t ∷ ts) rest o h in
    let r = w.reads in
    rw (r.0, r.1.0, r.2) (made_so p _ _ rest o (rolls-Cle g) (sym r.1.1.0 ∙ r.1.0))

listed_part : (S : StmtReader) (n : ℕ) → StmtComplete S n → (I : InitReader) (p : Stmt) (x : Act-F Act Stmt) → out-Act p.node ≡ x → is_statement (act_step (stmt_shaped x) p.line p.second).form ≡ true → (ts rest : Terminals) → length ts < n → Stated p ts rest → listed_of S I ts ≡ Some (p, rest)
listed_part S n both I p x o f ts rest lt h =
    let g : is_statement (stmt_shape p).form ≡ true = subst (λ (y : StmtShape). is_statement y.form ≡ true) (sym (stmt_open p x o)) f in
    let w = part_begins p ts rest g h.reads in
    let e = declares_not ts w in
    let r = both p ts rest lt (record { stated = h; form = g }) in
    listed_at S I ts _ PartFirst (λ s k. let c = k.cle in c) w (rw (e, r) refl)

listed_declares : (S : StmtReader) (I : InitReader) (n : ℕ) → InitComplete I n → (p : Stmt) (d : Declaration) → out-Act p.node ≡ act.Declare d → (ts rest : Terminals) → length ts < n → Stated p ts rest → listed_of S I ts ≡ Some (p, rest)
listed_declares S I n inits p d o ts rest lt h =
    let dd : Declares p = record { declaration = d; is = o } in
    let f = form_of p _ declares o refl in
    let hd : is_head (stmt_shape p).form ≡ true = subst (λ (y : Form). is_head y ≡ true) (sym f) refl in
    let r : Reads ((stmt_shape p).bare ++ put_mark mark.Semicolon []) ts rest = subst (λ (y : Spelling). Reads y ts rest) (spelling_bare p hd) h.reads in
    let w = declare_begins p dd h.proper (put_mark mark.Semicolon []) ts rest r in
    let v = declare_ended I n inits p dd h.proper [] ts rest lt r in
    let e = declares_so ts w in
    listed_at S I ts _ DeclFirst (λ s k. let c = k.cle in c) w (rw (e, v.found) (ap (λ (y : Terminals). some_of {A = Stmt × Terminals} (p, y)) v.reads))

listed_goes : (S : StmtReader) (n : ℕ) → StmtComplete S n → (I : InitReader) (m : ℕ) → InitComplete I m → (p : Stmt) (x : Act-F Act Stmt) → out-Act p.node ≡ x → (ts rest : Terminals) → length ts < n → length ts < m → Stated p ts rest → listed_of S I ts ≡ Some (p, rest)
listed_goes S n both I m inits p (act.Declare d) o ts rest lt le h = listed_declares S I m inits p d o ts rest le h
listed_goes S n both I m inits p (act.Cle g) o ts rest lt le h = cle_read S I p g o ts rest h
listed_goes S n both I m inits p act.Empty o ts rest lt le h = listed_part S n both I p _ o refl ts rest lt h
listed_goes S n both I m inits p (act.Block ss) o ts rest lt le h = listed_part S n both I p _ o refl ts rest lt h
listed_goes S n both I m inits p (act.Set op a b) o ts rest lt le h = listed_part S n both I p _ o refl ts rest lt h
listed_goes S n both I m inits p (act.Bump up true a) o ts rest lt le h = listed_part S n both I p _ o refl ts rest lt h
listed_goes S n both I m inits p (act.Bump up false a) o ts rest lt le h = listed_part S n both I p _ o refl ts rest lt h
listed_goes S n both I m inits p (act.Call a) o ts rest lt le h = listed_part S n both I p _ o refl ts rest lt h
listed_goes S n both I m inits p (act.If c s None) o ts rest lt le h = listed_part S n both I p _ o refl ts rest lt h
listed_goes S n both I m inits p (act.If c s (Some t)) o ts rest lt le h = listed_part S n both I p _ o refl ts rest lt h
listed_goes S n both I m inits p (act.While c s) o ts rest lt le h = listed_part S n both I p _ o refl ts rest lt h
listed_goes S n both I m inits p (act.DoWhile s c) o ts rest lt le h = listed_part S n both I p _ o refl ts rest lt h
listed_goes S n both I m inits p (act.For a b c s) o ts rest lt le h = listed_part S n both I p _ o refl ts rest lt h
listed_goes S n both I m inits p (act.Return None) o ts rest lt le h = listed_part S n both I p _ o refl ts rest lt h
listed_goes S n both I m inits p (act.Return (Some e)) o ts rest lt le h = listed_part S n both I p _ o refl ts rest lt h
listed_goes S n both I m inits p act.Break o ts rest lt le h = listed_part S n both I p _ o refl ts rest lt h
listed_goes S n both I m inits p act.Continue o ts rest lt le h = listed_part S n both I p _ o refl ts rest lt h

-- What is spelled so is read.
pub stmt_complete : (E : Reader) (m : ℕ) → Complete E m → (I : InitReader) → InitComplete I m → (n : ℕ) → n ≤ m → StmtComplete (stmt_at n E I) n
unfolding stmt_at
stmt_complete E m all I inits zero le p ts rest lt h = absurd (omega arith)
stmt_complete E m all I inits (suc n) le p ts rest lt h =
    let both = stmt_complete E m all I inits n (omega arith) in
    stmt_goes (stmt_at n E I) n both (listed_of (stmt_at n E I) I) (λ q us end less k. listed_goes (stmt_at n E I) n both I m inits q (out-Act q.node) refl us end less (omega arith) k) E m all I inits p (out-Act p.node) refl ts rest lt (omega arith) h

pub listed_complete : (E : Reader) (m : ℕ) → Complete E m → (I : InitReader) → InitComplete I m → (n : ℕ) → n ≤ m → ListedComplete (listed_of (stmt_at n E I) I) n
listed_complete E m all I inits n le p ts rest lt h = listed_goes (stmt_at n E I) n (stmt_complete E m all I inits n le) I m inits p (out-Act p.node) refl ts rest lt (omega arith) h
