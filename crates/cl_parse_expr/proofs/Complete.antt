-- What is spelled so is read.
use Rattle.std.proofs.Common.{◌≡◌, ℕ, zero, suc, ◌+◌, ◌<◌, ◌≤◌, List, [], ◌∷◌, ◌++◌, length, map, refl, subst, sym, ap, ◌∙◌, arith, Bool, true, false, ◌&&◌, cond, ltb, leb, eqb, Option, Some, None, inl, inr, ◌⊎◌, append_assoc}
use Rattle.std.proofs.lemmas.Bool.{ltb-false, ltb-true, leb-true, le-leb, lt-ltb, le-ltb}
use Rattle.std.specs.List.{flat_map}
use Rattle.std.proofs.lemmas.List.{append-nil}
use Rattle.cl_tree.specs.declared.kinds.UnOp.{UnOp}
use Rattle.cl_tree.specs.declared.kinds.UnOp.TheVariants as unary
use Rattle.cl_tree.specs.declared.kinds.BinOp.{BinOp}
use Rattle.cl_tree.specs.declared.kinds.BinOp.TheVariants as binary
use Rattle.cl_tree.specs.declared.token.Mark.{Mark}
use Rattle.cl_tree.specs.declared.token.Mark.TheVariants as mark
use Rattle.cl_tree.specs.declared.grammar.Keyword.{Keyword}
use Rattle.cl_tree.specs.declared.grammar.Base.{Base}
use Rattle.cl_tree.specs.declared.grammar.Sign.{Sign}
use Rattle.cl_tree.specs.declared.grammar.Sign.TheVariants as sign
use Rattle.cl_tree.specs.declared.grammar.Terminal.{Terminal}
use Rattle.cl_tree.specs.declared.tree.CType.{CType}
use Rattle.cl_tree.specs.declared.tree.Expr.{Expr}
use Rattle.cl_tree.specs.declared.tree.Node.{Node, Node-F, out-Node, roll-Node}
use Rattle.cl_tree.specs.declared.tree.Node.TheOpen as node
use Rattle.cl_tree.specs.declared.tree.Node.TheVariants as made
use Rattle.cl_tree.specs.declared.tree.Node.TheVariants.{rolls-Number, rolls-Real, rolls-Letter, rolls-Text, rolls-Variable, rolls-Unary, rolls-Binary, rolls-Choice, rolls-Cast, rolls-Call, rolls-Index, rolls-Member, rolls-Arrow, rolls-Paren}
use Rattle.cl_tree.specs.Words.{Word}
use Rattle.cl_tree.specs.Spelling.{Want, is, Wanted, Meets, Spelling, put_on, put, put_mark, mark_on, Fits, Reads, TypeShape, type_shape, type_name, is_empty, held_by, holder, star_lines, floating_lines, other_lines, base_on, stars_on, Shape, node_step, shape, binds, commas, all_proper, unary_mark, binary_mark, leaf}
use Rattle.cl_parse_expr.specs.declared.cursor.Fixed.{Fixed}
use Rattle.cl_parse_expr.specs.declared.cursor.Fixed.TheVariants as fixed
use Rattle.cl_parse_expr.specs.declared.cursor.Link.{Link}
use Rattle.cl_parse_expr.specs.declared.cursor.Link.TheVariants as link
use Rattle.cl_parse_expr.specs.declared.cursor.Start.{Start}
use Rattle.cl_parse_expr.specs.declared.cursor.Start.TheVariants as start
use Rattle.cl_parse_expr.specs.Cursor.{◌>>=◌, Terminals, after, found, same_mark, same_key, fixed_sign, is_fixed, name_at, start_of, mark_link, link_of, pull, link_at, line_of}
use Rattle.cl_parse_expr.specs.Types.{base_at, base_step, type_of, pointers_at, second_at}
use Rattle.cl_parse_expr.specs.Reading.{Reader, tree, opening, close, comma, more_at, args_at, cast_from, cast_at, paren_at, start_step, head_step, head_of, grow, loop_of, expr_of, expr_at}
use Rattle.cl_parse_expr.proofs.Shapes.{Parts, expr_induction, tree_is, shape_is, shape_open, shaped, shape_made, edge_of, edge, edge_is, edge_open, IsEdge, binds_from, binds_to}
use Rattle.cl_parse_expr.proofs.Marks.{some_of, some_is, and_intro, and_elim, reads_append, reads_split, reads_length, fixed_on, Stands, after_reads, found_sound, is_fixed_true, no_terminal, not_other, bind_some, found_ok, Named, name_reads}
use Rattle.cl_parse_expr.proofs.TypeNames.{made_of, pointed, arrayed, type_is_made, Based, base_reads, begins_type, no_type, asterisk, second_line, second_back, Starred, NoStar, pointers_read}
use Rattle.cl_parse_expr.proofs.First.{IsFirst, want_first, Begins, begins, Led, led}
use Rattle.cl_parse_expr.proofs.Sound.{pull_at, pull_at_to, pull_to, link_sign}

-- what may follow an expression doesn't open an argument list
abbrev pub NotOpen : Terminals → Type 0
NotOpen ts = after opening ts ≡ None

-- a tree of a level at least, well-formed, which the terminals spell up to the rest
pub record Spelled (k : ℕ) (p : Expr) (ts rest : Terminals) : Type 0 where
  pub some : 1 ≤ k
  pub most : k ≤ 12
  pub proper : (shape p).proper ≡ true
  pub level : k ≤ (shape p).level
  pub reads : Reads (shape p).spelling ts rest
  pub closed : NotOpen rest

-- fewer than n terminals
abbrev pub Complete : Reader → ℕ → Type 0
Complete E n = (k : ℕ) (p : Expr) (ts rest : Terminals) → length ts < n → Spelled k p ts rest → pull_at rest < k → E k ts ≡ Some (p, rest)

-- ---- what follows

pub record Ends (ts : Terminals) : Type 0 where
  pub free : pull_at ts < 1
  pub closed : NotOpen ts

-- a sign that links nothing, and is no `(`, ends an expression
abbrev pub IsEnd : Sign → Type 0
IsEnd s = (link_of s ≡ link.Nothing) × (is_fixed opening s ≡ false)

pub sign_ends : (s : Sign) (lines : List ℕ) (ms : Spelling) (ts rest : Terminals) → IsEnd s → Reads (put_on lines s ms) ts rest → Ends ts
sign_ends s lines ms [] rest e h = absurd h
sign_ends s lines ms (t ∷ ts) rest e h = record {
  free = rw h.0 (rw e.0 (omega arith));
  closed = no_terminal opening ts t (rw h.0 e.1);
}

pub close_ends : IsEnd (sign.Mark mark.CloseParen)
unfolding same_mark
close_ends = (refl, refl)

pub comma_ends : IsEnd (sign.Mark mark.Comma)
unfolding same_mark
comma_ends = (refl, refl)

pub colon_ends : IsEnd (sign.Mark mark.Colon)
unfolding same_mark
colon_ends = (refl, refl)

pub bracket_ends : IsEnd (sign.Mark mark.CloseBracket)
unfolding same_mark
bracket_ends = (refl, refl)

pub close_comma : is_fixed comma (sign.Mark mark.CloseParen) ≡ false
unfolding same_mark
close_comma = refl

-- ---- arguments

abbrev marks_of : List Expr → List Spelling
marks_of es = map (λ s. s.spelling) (map shape es)

abbrev others : List Expr → Spelling
others es = flat_map (put_mark mark.Comma) (marks_of es) ++ put_mark mark.CloseParen []

others_end : (es : List Expr) (ts rest : Terminals) → Reads (others es) ts rest → Ends ts
others_end [] ts rest h = sign_ends (sign.Mark mark.CloseParen) [] [] ts rest close_ends h
others_end (e ∷ es) ts rest h = sign_ends (sign.Mark mark.Comma) [] _ ts rest comma_ends h

others_one : (e : Expr) (es : List Expr) (ts rest : Terminals) → Reads (others (e ∷ es)) ts rest → Reads (put_mark mark.Comma ((shape e).spelling ++ others es)) ts rest
others_one e es ts rest h = subst (λ (ms : Spelling). Reads ms ts rest) (append_assoc (put_mark mark.Comma (shape e).spelling) (flat_map (put_mark mark.Comma) (marks_of es)) (put_mark mark.CloseParen [])) h

-- an expression of any level is read before what ends it
pub any_read : (E : Reader) (n : ℕ) → Complete E n → (e : Expr) (ts mid : Terminals) → length ts < n → (shape e).proper ≡ true → Reads (shape e).spelling ts mid → Ends mid → E 1 ts ≡ Some (e, mid)
any_read E n all e ts mid lt p r ends =
    let g = edge_is e in
    all 1 e ts mid lt (record { some = omega arith; most = omega arith; proper = p; level = g.some; reads = r; closed = ends.closed }) ends.free

pub some_pair : {A : Type 0} (a b : A) (u v : Terminals) → a ≡ b → u ≡ v → some_of {A = A × Terminals} (a, u) ≡ some_of {A = A × Terminals} (b, v)
some_pair a b u v e f = cc

done_step : (E : Reader) (n m : ℕ) (done : List Expr) (es : List Expr) (ts rest : Terminals) → Complete E n → length ts < n → length ts ≤ m → all_proper (map shape es) ≡ true → Reads (others es) ts rest → more_at E m done ts ≡ Some (done ++ es, rest)
unfolding more_at
done_step E n zero done es [] rest all lt le p h = absurd (no_terminals_left es rest h)
  where
    no_terminals_left : (es : List Expr) (rest : Terminals) → Reads (others es) [] rest → ⊥
    no_terminals_left [] rest h = h
    no_terminals_left (e ∷ es) rest h = h
done_step E n zero done es (t ∷ ts) rest all lt le p h = absurd (omega arith)
done_step E n (suc m) done [] ts rest all lt le p h =
    let a = after_reads close [] [] ts rest h in
    rw (not_other (sign.Mark mark.CloseParen) comma [] [] ts rest close_comma h, a.found) (some_pair _ _ _ _ (sym (append-nil done)) a.reads)
done_step E n (suc m) done (e ∷ es) ts rest all lt le p h =
    let q = and_elim _ _ p in
    let a = after_reads comma [] _ ts rest (others_one e es ts rest h) in
    let r = reads_split (shape e).spelling (others es) a.next rest a.reads in
    let long = a.less in
    let short = reads_length (shape e).spelling a.next r.0 r.1 in
    let one = any_read E n all e a.next r.0 (omega arith) q.0 r.1 (others_end es r.0 rest r.2) in
    let more = done_step E n m (done ++ e ∷ []) es r.0 rest all (omega arith) (omega arith) q.1 r.2 in
    rw (a.found, one, more) (rw append_assoc refl)

-- ---- the first terminal of an expression

-- a fixed terminal that begins no expression
abbrev pub NoFirst : Fixed → Type 0
NoFirst (fixed.Mark m) = start_of m ≡ start.Nothing
NoFirst (fixed.Key k) = Unit {0}

not_first : (f : Fixed) → NoFirst f → IsFirst (fixed_sign f) → ⊥
not_first (fixed.Mark m) q h = h q
not_first (fixed.Key k) q h = h

first_not : (f : Fixed) → NoFirst f → (x : Sign) → IsFirst x → is_fixed f x ≡ false
first_not f q x h = differs (is_fixed f x) refl
  where
    differs : (b : Bool) → is_fixed f x ≡ b → is_fixed f x ≡ false
    differs true e = absurd (not_first f q (subst IsFirst (is_fixed_true f x e) h))
    differs false e = e

first_begins_no_type : (x : Sign) → IsFirst x → begins_type x ≡ false
first_begins_no_type (sign.Integer v k) h = refl
first_begins_no_type sign.Floating h = refl
first_begins_no_type (sign.Letter b) h = refl
first_begins_no_type (sign.Text bs) h = refl
first_begins_no_type (sign.Name n) h = refl
first_begins_no_type (sign.Mark m) h = refl
first_begins_no_type _ h = absurd h

-- the first terminal of what begins so
pub record Opens (ts : Terminals) : Type 0 where
  pub terminal : Terminal
  pub next : Terminals
  pub is : ts ≡ terminal ∷ next
  pub first : IsFirst terminal.what

opens_step : (ms : Spelling) (ts mid : Terminals) → Begins ms → Reads ms ts mid → Opens ts
opens_step [] ts mid b h = absurd b
opens_step (m ∷ ms) [] mid b h = absurd h
opens_step (m ∷ ms) (t ∷ ts) mid b h = record { terminal = t; next = ts; is = refl; first = of_want m.what t.what b h.0 }
  where
    of_want : (w : Want) (s : Sign) → want_first w → Meets w s → IsFirst s
    of_want (is u) s f e = subst IsFirst (sym e) f
    of_want _ s f e = absurd f

pub expr_opens : (e : Expr) (ts mid : Terminals) → Reads (shape e).spelling ts mid → Opens ts
expr_opens e ts mid h = opens_step (shape e).spelling ts mid (begins e) h

-- a terminal that begins no expression isn't where one begins
pub starts_not : (f : Fixed) → NoFirst f → (e : Expr) (ts mid : Terminals) → Reads (shape e).spelling ts mid → after f ts ≡ None
starts_not f q e ts mid h =
    let o = expr_opens e ts mid h in
    subst (λ (y : Terminals). after f y ≡ None) (sym o.is) (no_terminal f o.next o.terminal (first_not f q o.terminal.what o.first))

-- nor is a type
pub starts_no_type : (e : Expr) (ts mid : Terminals) → Reads (shape e).spelling ts mid → base_at ts ≡ None
starts_no_type e ts mid h =
    let o = expr_opens e ts mid h in
    subst (λ (y : Terminals). base_at y ≡ None) (sym o.is) (no_type o.terminal o.next (first_begins_no_type o.terminal.what o.first))

args_read : (E : Reader) (n : ℕ) → Complete E n → (es : List Expr) (ts rest : Terminals) → length ts < n → all_proper (map shape es) ≡ true → Reads (commas (marks_of es) ++ put_mark mark.CloseParen []) ts rest → args_at E ts ≡ Some (es, rest)
unfolding args_at
args_read E n all [] ts rest lt p h =
    let a = after_reads close [] [] ts rest h in
    rw a.found (some_pair _ _ _ _ refl a.reads)
args_read E n all (e ∷ es) ts rest lt p h =
    let q = and_elim _ _ p in
    let r = reads_split (shape e).spelling (others es) ts rest (subst (λ (ms : Spelling). Reads ms ts rest) (append_assoc (shape e).spelling (flat_map (put_mark mark.Comma) (marks_of es)) (put_mark mark.CloseParen [])) h) in
    let one = any_read E n all e ts r.0 lt q.0 r.1 (others_end es r.0 rest r.2) in
    let short = reads_length (shape e).spelling ts r.0 r.1 in
    let more = done_step E n (length r.0) (e ∷ []) es r.0 rest all (omega arith) (omega arith) q.1 r.2 in
    rw (starts_not close refl e ts r.0 r.1, one, more) refl

-- ---- one level

-- An expression is read as far as its last terminal, and the loop goes on from there.
pub record Goes (E : Reader) (k : ℕ) (p : Expr) (ts rest : Terminals) : Type 0 where
  pub turns : ℕ
  pub enough : length rest < turns
  pub is : expr_of E k ts ≡ loop_of E turns k p rest

abbrev pub GoesAll : Reader → ℕ → Expr → Type 0
GoesAll E n p = (k : ℕ) (ts rest : Terminals) → length ts < suc n → Spelled k p ts rest → pull_at rest < edge p → Goes E k p ts rest

-- by its head alone
by_head : (E : Reader) (k : ℕ) (p : Expr) (ts rest : Terminals) → head_of E ts ≡ Some (p, rest) → Goes E k p ts rest
by_head E k p ts rest h = record { turns = suc (length rest); enough = omega arith; is = rw h refl }

-- by a link, from what stands on its left
by_link : (E : Reader) (k : ℕ) (a p : Expr) (ts mid rest : Terminals) → Goes E k a ts mid → (x : Link) (line : ℕ) (next : Terminals) → link_at k mid ≡ Some (x, line, next) → grow E a line x next ≡ Some (p, rest) → length rest < length mid → Goes E k p ts rest
unfolding loop_of
by_link E k a p ts mid rest g x line next l e lt = turned g.turns g.enough g.is
  where
    turned : (m : ℕ) → length mid < m → expr_of E k ts ≡ loop_of E m k a mid → Goes E k p ts rest
    turned zero enough same = absurd (omega arith)
    turned (suc m) enough same = record { turns = m; enough = omega arith; is = same ∙ rw (l, e) refl }

-- a link stands at the front
record Linked (k : ℕ) (x : Link) (lines : List ℕ) (ms : Spelling) (ts rest : Terminals) : Type 0 where
  pub line : ℕ
  pub next : Terminals
  pub fits : Fits lines line
  pub found : link_at k ts ≡ Some (x, line, next)
  pub reads : Reads ms next rest
  pub less : length ts ≡ suc (length next)
  pub pulls : pull_at ts ≡ pull x

link_found : (k : ℕ) (x : Link) (m : Mark) (lines : List ℕ) (ms : Spelling) (ts rest : Terminals) → mark_link m ≡ x → k ≤ pull x → Reads (mark_on lines m ms) ts rest → Linked k x lines ms ts rest
unfolding link_at
link_found k x m lines ms [] rest q le h = absurd h
link_found k x m lines ms (t ∷ ts) rest q le h =
    let e : link_of t.what ≡ x = rw h.0 q in
    record { line = t.line; next = ts; fits = h.1; found = rw (e, le-ltb (pull x) k le) refl; reads = h.2; less = refl; pulls = ap pull e }

-- ---- the heads

made_is : (p : Expr) (x : Node-F Node Expr) (n : Node) → out-Node p.node ≡ x → roll-Node x ≡ n → tree p.line p.second n ≡ p
made_is p x n o r = ap (λ (y : Node). tree p.line p.second y) (sym r) ∙ tree_is p x o

-- what is known of a tree, at one level
record Opened (k l s : ℕ) (x : Node-F Node Expr) (ts rest : Terminals) : Type 0 where
  pub proper : (node_step (shaped x) l s).proper ≡ true
  pub level : k ≤ (node_step (shaped x) l s).level
  pub reads : Reads (node_step (shaped x) l s).spelling ts rest

opened : (k : ℕ) (p : Expr) (x : Node-F Node Expr) (ts rest : Terminals) → out-Node p.node ≡ x → Spelled k p ts rest → Opened k p.line p.second x ts rest
opened k p x ts rest o h =
    let q = shape_open p x o in
    record {
      proper = subst (λ (y : Shape). y.proper ≡ true) q h.proper;
      level = subst (λ (y : Shape). k ≤ y.level) q h.level;
      reads = subst (λ (y : Shape). Reads y.spelling ts rest) q h.reads;
    }

-- a terminal that is the whole expression, whatever follows
leaf_head : (E : Reader) (s : Sign) (n : Node) → ((line : ℕ) (ts : Terminals) → NotOpen ts → head_step E line s ts ≡ Some (tree line line n, ts)) → (l c : ℕ) (ts rest : Terminals) → NotOpen rest → Reads (put_on (l ∷ c ∷ []) s []) ts rest → head_of E ts ≡ Some (tree l c n, rest)
unfolding head_of
leaf_head E s n step l c [] rest shut h = absurd h
leaf_head E s n step l c (t ∷ ts) rest shut h =
    let e : head_step E t.line s ts ≡ Some (tree t.line t.line n, ts) = step t.line ts (subst NotOpen (sym h.2) shut) in
    rw (h.0, e) (ended t.line l c ts rest n h.1.0 (sym h.1.1.0 ∙ h.1.0) h.2)
  where
    ended : (t l c : ℕ) (ts rest : Terminals) (n : Node) → t ≡ l → c ≡ l → ts ≡ rest → some_of {A = Expr × Terminals} (tree t t n, ts) ≡ Some (tree l c n, rest)
    ended t l c ts rest n e f g = rw (e, f, g) refl

name_alone : (E : Reader) (name : Word) (line : ℕ) (ts : Terminals) → NotOpen ts → head_step E line (sign.Name name) ts ≡ Some (tree line line (made.Variable name), ts)
name_alone E name line ts shut = rw shut refl

-- an expression before a sign that ends it
pub record Before (E : Reader) (e : Expr) (f : Fixed) (lines : List ℕ) (ms : Spelling) (ts rest : Terminals) : Type 0 where
  pub mid : Terminals
  pub found : E 1 ts ≡ Some (e, mid)
  pub stands : Stands f lines ms mid rest
  pub less : length mid ≤ length ts

pub before_sign : (E : Reader) (n : ℕ) → Complete E n → (e : Expr) (f : Fixed) (lines : List ℕ) (ms : Spelling) (ts rest : Terminals) → length ts < n → (shape e).proper ≡ true → IsEnd (fixed_sign f) → Reads ((shape e).spelling ++ fixed_on lines f ms) ts rest → Before E e f lines ms ts rest
before_sign E n all e f lines ms ts rest lt p q h =
    let r = reads_split (shape e).spelling (fixed_on lines f ms) ts rest h in
    let short = reads_length (shape e).spelling ts r.0 r.1 in
    record {
      mid = r.0;
      found = any_read E n all e ts r.0 lt p r.1 (sign_ends (fixed_sign f) lines ms r.0 rest q r.2);
      stands = after_reads f lines ms r.0 rest r.2;
      less = omega arith;
    }

paren_head : (E : Reader) (n : ℕ) → Complete E n → (e : Expr) (l c : ℕ) (ts rest : Terminals) → length ts < suc n → (shape e).proper ≡ true → Reads (mark_on (l ∷ c ∷ []) mark.OpenParen ((shape e).spelling ++ put_mark mark.CloseParen [])) ts rest → head_of E ts ≡ Some (tree l c (made.Paren e), rest)
unfolding head_of start_step paren_at
paren_head E n all e l c [] rest lt p h = absurd h
paren_head E n all e l c (t ∷ ts) rest lt p h =
    let b = before_sign E n all e close [] [] ts rest (omega arith) p close_ends h.2 in
    let r = reads_split (shape e).spelling (put_mark mark.CloseParen []) ts rest h.2 in
    let q : c ≡ l = sym h.1.1.0 ∙ h.1.0 in
    rw (h.0, starts_no_type e ts r.0 r.1, b.found, b.stands.found, b.stands.reads, h.1.0, q) refl

-- no star where an expression in parentheses ends
no_star : (ms : Spelling) (rest : Terminals) → NoStar (put_mark mark.CloseParen ms) rest
unfolding same_mark
no_star ms rest ts h = not_other (sign.Mark mark.CloseParen) asterisk [] ms ts rest refl h

-- a type name is its base and its stars
named_type : (t : CType) → (is_empty (type_shape t).dims && (type_shape t).proper) ≡ true → pointed (type_of (type_shape t).base) (type_shape t).stars ≡ t
named_type t p =
    let q = and_elim _ _ p in
    ap (λ (ds : List ℕ). arrayed (pointed (type_of (type_shape t).base) (type_shape t).stars) ds) (sym (empty_is (type_shape t).dims q.0)) ∙ type_is_made t q.1
  where
    empty_is : (ds : List ℕ) → is_empty ds ≡ true → ds ≡ []
    empty_is [] e = refl
    empty_is (d ∷ ds) e = absurd cc

-- a type name is read before a `)`
pub record TypeRead (t : CType) (second o : ℕ) (ms : Spelling) (ts rest : Terminals) : Type 0 where
  pub floating : ℕ
  pub next : Terminals
  pub base : base_at ts ≡ Some ((type_shape t).base, floating, next)
  pub mid : Terminals
  pub found : pointers_at (length next) (type_of (type_shape t).base) next ≡ (t, mid)
  pub reads : Reads ms mid rest
  pub line_is : second_at (type_shape t).base floating o next ≡ second
  pub less : length mid < length ts

pub type_read : (t : CType) (second o : ℕ) (lines : List ℕ) (ms : Spelling) (ts rest : Terminals) → (is_empty (type_shape t).dims && (type_shape t).proper) ≡ true → NoStar ms rest → Fits (other_lines (held_by t) second) o → Reads (type_name [] t second ms) ts rest → TypeRead t second o ms ts rest
type_read t second o lines ms ts rest p none fits h =
    let b = base_reads (floating_lines (held_by t) second) (type_shape t).base _ ts rest h in
    let s = pointers_read (length b.next) (type_shape t).stars (type_shape t).base (star_lines (held_by t) second) (type_of (type_shape t).base) ms b.next rest (omega arith) none b.reads in
    let less = s.less in
    let more = b.less in
    record {
      floating = b.line;
      next = b.next;
      base = b.found;
      mid = s.next;
      found = s.found ∙ ap (λ (y : CType). (y, s.next)) (named_type t p);
      reads = s.reads;
      line_is = s.second b.line o ∙ second_back (type_shape t).stars (type_shape t).base second (line_of b.next) b.line o s.fits b.fits fits;
      less = omega arith;
    }

cast_head : (E : Reader) (n : ℕ) → Complete E n → (u : CType) (e : Expr) (l c : ℕ) (ts rest : Terminals) → length ts < suc n → (is_empty (type_shape u).dims && (type_shape u).proper) ≡ true → (shape e).proper ≡ true → 12 ≤ (shape e).level → NotOpen rest → pull_at rest < 12
    → Reads (mark_on (l ∷ other_lines (held_by u) c) mark.OpenParen (type_name [] u c (put_mark mark.CloseParen (shape e).spelling))) ts rest → head_of E ts ≡ Some (tree l c (made.Cast u e), rest)
unfolding head_of start_step cast_at cast_from
cast_head E n all u e l c [] rest lt tp p v shut f h = absurd h
cast_head E n all u e l c (t ∷ ts) rest lt tp p v shut f h =
    let r = type_read u c t.line [] (put_mark mark.CloseParen (shape e).spelling) ts rest tp (no_star (shape e).spelling rest) h.1.1 h.2 in
    let a = after_reads close [] (shape e).spelling r.mid rest r.reads in
    let less = r.less in
    let more = a.less in
    let i = all 12 e a.next rest (omega arith) (record { some = omega arith; most = omega arith; proper = p; level = v; reads = a.reads; closed = shut }) f in
    rw (h.0, r.base, r.found, r.line_is, a.found, i, h.1.0) refl

start_of_unary : (op : UnOp) → start_of (unary_mark op) ≡ start.Prefix op
start_of_unary unary.Minus = refl
start_of_unary unary.Plus = refl
start_of_unary unary.Flip = refl
start_of_unary unary.Not = refl
start_of_unary unary.Star = refl
start_of_unary unary.Amp = refl

unary_head : (E : Reader) (n : ℕ) → Complete E n → (op : UnOp) (e : Expr) (l c : ℕ) (ts rest : Terminals) → length ts < suc n → (shape e).proper ≡ true → 12 ≤ (shape e).level → NotOpen rest → pull_at rest < 12 → Reads (mark_on (l ∷ c ∷ []) (unary_mark op) (shape e).spelling) ts rest → head_of E ts ≡ Some (tree l c (made.Unary op e), rest)
unfolding head_of start_step
unary_head E n all op e l c [] rest lt p v shut f h = absurd h
unary_head E n all op e l c (t ∷ ts) rest lt p v shut f h =
    let a = all 12 e ts rest (omega arith) (record { some = omega arith; most = omega arith; proper = p; level = v; reads = h.2; closed = shut }) f in
    let q : c ≡ l = sym h.1.1.0 ∙ h.1.0 in
    rw (h.0, start_of_unary op, a, h.1.0, q) refl

call_head : (E : Reader) (n : ℕ) → Complete E n → (name : Word) (es : List Expr) (l c : ℕ) (ts rest : Terminals) → length ts < suc n → all_proper (map shape es) ≡ true → Reads (put_on (l ∷ c ∷ []) (sign.Name name) (put_mark mark.OpenParen (commas (marks_of es) ++ put_mark mark.CloseParen []))) ts rest → head_of E ts ≡ Some (tree l c (made.Call name es), rest)
unfolding head_of
call_head E n all name es l c [] rest lt p h = absurd h
call_head E n all name es l c (t ∷ ts) rest lt p h =
    let a = after_reads opening [] _ ts rest h.2 in
    let long = a.less in
    let r = args_read E n all es a.next rest (omega arith) p a.reads in
    let q : c ≡ l = sym h.1.1.0 ∙ h.1.0 in
    rw (h.0, a.found, r, h.1.0, q) refl

-- ---- the links

binary_grow : (E : Reader) (n : ℕ) → Complete E n → (op : BinOp) (a b : Expr) (l c d : ℕ) (ts rest : Terminals) → length ts < n → l ≡ a.line → d ≡ c → (shape b).proper ≡ true → suc (binds op) ≤ (shape b).level → NotOpen rest → pull_at rest < suc (binds op) → Reads (shape b).spelling ts rest → grow E a d (link.Binary op) ts ≡ Some (tree l c (made.Binary op a b), rest)
unfolding grow
binary_grow E n all op a b l c d ts rest lt q dc p v shut f h =
    let r = all (suc (binds op)) b ts rest lt (record { some = omega arith; most = omega (arith, binds_to op); proper = p; level = v; reads = h; closed = shut }) f in
    rw (r, q, dc) refl

index_grow : (E : Reader) (n : ℕ) → Complete E n → (a i : Expr) (l c d : ℕ) (ts rest : Terminals) → length ts < n → l ≡ a.line → d ≡ c → (shape i).proper ≡ true → Reads ((shape i).spelling ++ put_mark mark.CloseBracket []) ts rest → grow E a d link.Index ts ≡ Some (tree l c (made.Index a i), rest)
unfolding grow
index_grow E n all a i l c d ts rest lt q dc p h =
    let b = before_sign E n all i (fixed.Mark mark.CloseBracket) [] [] ts rest lt p bracket_ends h in
    rw (b.found, b.stands.found, b.stands.reads, q, dc) refl

member_grow : (E : Reader) (a : Expr) (name : Word) (l c d : ℕ) (ts rest : Terminals) → l ≡ a.line → c ≡ l → Reads (put (sign.Name name) []) ts rest → grow E a d link.Member ts ≡ Some (tree l c (made.Member a name), rest)
unfolding grow
member_grow E a name l c d ts rest q dc h = let n = name_reads [] name [] ts rest h in rw (n.found, n.reads, dc, q) refl

arrow_grow : (E : Reader) (a : Expr) (name : Word) (l c d : ℕ) (ts rest : Terminals) → l ≡ a.line → d ≡ c → Reads (put (sign.Name name) []) ts rest → grow E a d link.Arrow ts ≡ Some (tree l c (made.Arrow a name), rest)
unfolding grow
arrow_grow E a name l c d ts rest q dc h = let n = name_reads [] name [] ts rest h in rw (n.found, n.reads, q, dc) refl

choice_grow : (E : Reader) (n : ℕ) → Complete E n → (c a b : Expr) (l s d : ℕ) (ts rest : Terminals) → length ts < n → l ≡ c.line → s ≡ l → (shape a).proper ≡ true → (shape b).proper ≡ true → NotOpen rest → pull_at rest < 1 → Reads ((shape a).spelling ++ put_mark mark.Colon (shape b).spelling) ts rest → grow E c d link.Choice ts ≡ Some (tree l s (made.Choice c a b), rest)
unfolding grow
choice_grow E n all c a b l s d ts rest lt q sl p u shut f h =
    let x = before_sign E n all a (fixed.Mark mark.Colon) [] (shape b).spelling ts rest lt p colon_ends h in
    let st = x.stands in
    let long = st.less in
    let short = x.less in
    let r = any_read E n all b st.next rest (omega arith) u st.reads (record { free = f; closed = shut }) in
    rw (x.found, st.found, r, sl, q) refl

binary_link_of : (op : BinOp) → mark_link (binary_mark op) ≡ link.Binary op
binary_link_of binary.Or = refl
binary_link_of binary.And = refl
binary_link_of binary.BitOr = refl
binary_link_of binary.Xor = refl
binary_link_of binary.BitAnd = refl
binary_link_of binary.Equal = refl
binary_link_of binary.Unequal = refl
binary_link_of binary.Less = refl
binary_link_of binary.Greater = refl
binary_link_of binary.AtMost = refl
binary_link_of binary.AtLeast = refl
binary_link_of binary.Left = refl
binary_link_of binary.Right = refl
binary_link_of binary.Add = refl
binary_link_of binary.Sub = refl
binary_link_of binary.Mul = refl
binary_link_of binary.Div = refl
binary_link_of binary.Rem = refl

binary_closed : (op : BinOp) → is_fixed opening (sign.Mark (binary_mark op)) ≡ false
unfolding same_mark
binary_closed binary.Or = refl
binary_closed binary.And = refl
binary_closed binary.BitOr = refl
binary_closed binary.Xor = refl
binary_closed binary.BitAnd = refl
binary_closed binary.Equal = refl
binary_closed binary.Unequal = refl
binary_closed binary.Less = refl
binary_closed binary.Greater = refl
binary_closed binary.AtMost = refl
binary_closed binary.AtLeast = refl
binary_closed binary.Left = refl
binary_closed binary.Right = refl
binary_closed binary.Add = refl
binary_closed binary.Sub = refl
binary_closed binary.Mul = refl
binary_closed binary.Div = refl
binary_closed binary.Rem = refl

question_closed : is_fixed opening (sign.Mark mark.Question) ≡ false
unfolding same_mark
question_closed = refl

pub index_closed : is_fixed opening (sign.Mark mark.OpenBracket) ≡ false
unfolding same_mark
index_closed = refl

dot_closed : is_fixed opening (sign.Mark mark.Dot) ≡ false
unfolding same_mark
dot_closed = refl

arrow_closed : is_fixed opening (sign.Mark mark.Arrow) ≡ false
unfolding same_mark
arrow_closed = refl

-- The operand on the left is read, and then the link and what it takes.
from_left : (E : Reader) (n k : ℕ) (p a : Expr) (x : Link) (m : Mark) (lines : List ℕ) (ms : Spelling) (ts rest : Terminals) → GoesAll E n a → length ts < suc n → 1 ≤ k → k ≤ 12 → (shape a).proper ≡ true → k ≤ (shape a).level → mark_link m ≡ x → k ≤ pull x → pull x < edge a → is_fixed opening (sign.Mark m) ≡ false
    → Reads ((shape a).spelling ++ mark_on lines m ms) ts rest
    → ((line : ℕ) (next : Terminals) → length next < n → Fits lines line → Reads ms next rest → grow E a line x next ≡ Some (p, rest))
    → Goes E k p ts rest
from_left E n k p a x m lines ms ts rest goes lt one most pa ka q kx xe f h then =
    let r = reads_split (shape a).spelling (mark_on lines m ms) ts rest h in
    let mid = r.0 in
    let l = link_found k x m lines ms mid rest q kx r.2 in
    let short = reads_length (shape a).spelling ts mid r.1 in
    let long = reads_length ms l.next rest l.reads in
    let less = l.less in
    let pulls = l.pulls in
    let closed : NotOpen mid = not_other (sign.Mark m) opening lines ms mid rest f r.2 in
    let g = goes k ts mid lt (record { some = one; most = most; proper = pa; level = ka; reads = r.1; closed = closed }) (omega arith) in
    by_link E k a p ts mid rest g x l.line l.next l.found (then l.line l.next (omega arith) l.fits l.reads) (omega arith)

-- ---- each variant

abbrev pub as_found : Expr → Terminals → Option (Expr × Terminals)
as_found e rest = Some (e, rest)

leaf_goes : (E : Reader) (k : ℕ) (p : Expr) (x : Node-F Node Expr) (s : Sign) (n : Node) (ts rest : Terminals) → out-Node p.node ≡ x → roll-Node x ≡ n → node_step (shaped x) p.line p.second ≡ leaf s p.line p.second → ((line : ℕ) (us : Terminals) → NotOpen us → head_step E line s us ≡ Some (tree line line n, us)) → Spelled k p ts rest → Goes E k p ts rest
leaf_goes E k p x s n ts rest o r q step h =
    let w = opened k p x ts rest o h in
    by_head E k p ts rest
    (leaf_head E s n step p.line p.second ts rest h.closed (subst (λ (y : Shape). Reads y.spelling ts rest) q w.reads)
    ∙ ap (λ (y : Expr). as_found y rest) (made_is p x n o r))

goes_step : (E : Reader) (n : ℕ) → Complete E n → (p : Expr) (x : Node-F Node Expr) → out-Node p.node ≡ x → Parts (GoesAll E n) x → GoesAll E n p
goes_step E n all p (node.Number v i) o parts k ts rest lt h f = leaf_goes E k p _ (sign.Integer v i) _ ts rest o (rolls-Number v i) refl (λ line us shut. refl) h
goes_step E n all p node.Real o parts k ts rest lt h f = leaf_goes E k p _ sign.Floating _ ts rest o rolls-Real refl (λ line us shut. refl) h
goes_step E n all p (node.Letter b) o parts k ts rest lt h f = leaf_goes E k p _ (sign.Letter b) _ ts rest o (rolls-Letter b) refl (λ line us shut. refl) h
goes_step E n all p (node.Text bs) o parts k ts rest lt h f = leaf_goes E k p _ (sign.Text bs) _ ts rest o (rolls-Text bs) refl (λ line us shut. refl) h
goes_step E n all p (node.Variable name) o parts k ts rest lt h f = leaf_goes E k p _ (sign.Name name) _ ts rest o (rolls-Variable name) refl (name_alone E name) h
goes_step E n all p (node.Paren e) o parts k ts rest lt h f =
    let w = opened k p (node.Paren e) ts rest o h in
    by_head E k p ts rest (paren_head E n all e p.line p.second ts rest lt w.proper w.reads ∙ ap (λ (y : Expr). as_found y rest) (made_is p _ _ o (rolls-Paren e)))
goes_step E n all p (node.Unary op e) o parts k ts rest lt h f =
    let w = opened k p (node.Unary op e) ts rest o h in
    let r = and_elim _ _ w.proper in
    let limit : pull_at rest < 12 = subst (λ (y : ℕ). pull_at rest < y) (edge_open p _ o) f in
    by_head E k p ts rest (unary_head E n all op e p.line p.second ts rest lt r.1 (leb-true _ _ r.0) h.closed limit w.reads ∙ ap (λ (y : Expr). as_found y rest) (made_is p _ _ o (rolls-Unary op e)))
goes_step E n all p (node.Cast u e) o parts k ts rest lt h f =
    let w = opened k p (node.Cast u e) ts rest o h in
    let q = and_elim _ _ w.proper in
    let r = and_elim _ _ q.1 in
    let limit : pull_at rest < 12 = subst (λ (y : ℕ). pull_at rest < y) (edge_open p _ o) f in
    by_head E k p ts rest (cast_head E n all u e p.line p.second ts rest lt q.0 r.1 (leb-true _ _ r.0) h.closed limit w.reads ∙ ap (λ (y : Expr). as_found y rest) (made_is p _ _ o (rolls-Cast u e)))
goes_step E n all p (node.Call name es) o parts k ts rest lt h f =
    let w = opened k p (node.Call name es) ts rest o h in
    by_head E k p ts rest (call_head E n all name es p.line p.second ts rest lt w.proper w.reads ∙ ap (λ (y : Expr). as_found y rest) (made_is p _ _ o (rolls-Call name es)))
goes_step E n all p (node.Binary op a b) o parts k ts rest lt h f =
    let w = opened k p (node.Binary op a b) ts rest o h in
    let q = led (p.line ∷ []) a _ ts rest w.reads in
    let r = and_elim _ _ w.proper in
    let v = and_elim _ _ r.0 in
    let u = and_elim _ _ r.1 in
    let high = leb-true _ _ v.0 in
    let limit : pull_at rest < suc (binds op) = subst (λ (y : ℕ). pull_at rest < y) (edge_open p _ o) f in
    let g = edge_is a in
    from_left E n k p a (link.Binary op) (binary_mark op) (p.second ∷ []) (shape b).spelling ts rest parts.0 lt h.some h.most u.0 (omega (arith, w.level)) (binary_link_of op) w.level (g.strict (binds op) (binds_from op) (binds_to op) high) (binary_closed op) q.reads
    (λ line next less fits reads. binary_grow E n all op a b p.line p.second line next rest less (sym q.fits.0) fits.0 u.1 (leb-true _ _ v.1) h.closed limit reads ∙ ap (λ (y : Expr). as_found y rest) (made_is p _ _ o (rolls-Binary op a b)))
goes_step E n all p (node.Choice c a b) o parts k ts rest lt h f =
    let w = opened k p (node.Choice c a b) ts rest o h in
    let q = led (p.line ∷ p.second ∷ []) c _ ts rest w.reads in
    let r = and_elim _ _ w.proper in
    let v = and_elim _ _ r.1 in
    let u = and_elim _ _ v.1 in
    let high = leb-true _ _ r.0 in
    let limit : pull_at rest < 1 = subst (λ (y : ℕ). pull_at rest < y) (edge_open p _ o) f in
    let g = edge_is c in
    from_left E n k p c link.Choice mark.Question [] _ ts rest parts.0 lt h.some h.most v.0 (omega (arith, w.level)) refl w.level (g.below 2 high (omega arith)) question_closed q.reads
    (λ line next less fits reads. choice_grow E n all c a b p.line p.second line next rest less (sym q.fits.0) (sym q.fits.1.0 ∙ q.fits.0) u.0 u.1 h.closed limit reads ∙ ap (λ (y : Expr). as_found y rest) (made_is p _ _ o (rolls-Choice c a b)))
goes_step E n all p (node.Index a i) o parts k ts rest lt h f =
    let w = opened k p (node.Index a i) ts rest o h in
    let q = led (p.line ∷ []) a _ ts rest w.reads in
    let r = and_elim _ _ w.proper in
    let u = and_elim _ _ r.1 in
    let high = leb-true _ _ r.0 in
    let g = edge_is a in
    from_left E n k p a link.Index mark.OpenBracket (p.second ∷ []) _ ts rest parts.0 lt h.some h.most u.0 (omega (arith, h.most)) refl w.level (g.postfix high) index_closed q.reads
    (λ line next less fits reads. index_grow E n all a i p.line p.second line next rest less (sym q.fits.0) fits.0 u.1 reads ∙ ap (λ (y : Expr). as_found y rest) (made_is p _ _ o (rolls-Index a i)))
goes_step E n all p (node.Member a name) o parts k ts rest lt h f =
    let w = opened k p (node.Member a name) ts rest o h in
    let q = led (p.line ∷ p.second ∷ []) a _ ts rest w.reads in
    let r = and_elim _ _ w.proper in
    let high = leb-true _ _ r.0 in
    let g = edge_is a in
    from_left E n k p a link.Member mark.Dot [] _ ts rest parts lt h.some h.most r.1 (omega (arith, h.most)) refl w.level (g.postfix high) dot_closed q.reads
    (λ line next less fits reads. member_grow E a name p.line p.second line next rest (sym q.fits.0) (sym q.fits.1.0 ∙ q.fits.0) reads ∙ ap (λ (y : Expr). as_found y rest) (made_is p _ _ o (rolls-Member a name)))
goes_step E n all p (node.Arrow a name) o parts k ts rest lt h f =
    let w = opened k p (node.Arrow a name) ts rest o h in
    let q = led (p.line ∷ []) a _ ts rest w.reads in
    let r = and_elim _ _ w.proper in
    let high = leb-true _ _ r.0 in
    let g = edge_is a in
    from_left E n k p a link.Arrow mark.Arrow (p.second ∷ []) _ ts rest parts lt h.some h.most r.1 (omega (arith, h.most)) refl w.level (g.postfix high) arrow_closed q.reads
    (λ line next less fits reads. arrow_grow E a name p.line p.second line next rest (sym q.fits.0) fits.0 reads ∙ ap (λ (y : Expr). as_found y rest) (made_is p _ _ o (rolls-Arrow a name)))

goes_all : (E : Reader) (n : ℕ) → Complete E n → (p : Expr) → GoesAll E n p
goes_all E n all = expr_induction (GoesAll E n) (λ p h. goes_step E n all p (out-Node p.node) refl h)

loop_stops : (E : Reader) (m k : ℕ) (p : Expr) (rest : Terminals) → length rest < m → pull_at rest < k → loop_of E m k p rest ≡ Some (p, rest)
unfolding loop_of link_at
loop_stops E zero k p rest lt f = absurd (omega arith)
loop_stops E (suc m) k p [] lt f = refl
loop_stops E (suc m) k p (t ∷ ts) lt f = rw (lt-ltb (pull (link_of t.what)) k f) refl

next_complete : (E : Reader) (n : ℕ) → Complete E n → (k : ℕ) (p : Expr) (ts rest : Terminals) → length ts < suc n → Spelled k p ts rest → pull_at rest < k → expr_of E k ts ≡ Some (p, rest)
next_complete E n all k p ts rest lt h f =
    let e = edge_is p in
    let below = e.below k h.level h.most in
    let g = goes_all E n all p k ts rest lt h (omega arith) in
    g.is ∙ loop_stops E g.turns k p rest g.enough f

-- What is spelled so is read.
pub expr_complete : (n : ℕ) → Complete (expr_at n) n
unfolding expr_at
expr_complete zero k p ts rest lt h f = absurd (omega arith)
expr_complete (suc n) k p ts rest lt h f = next_complete (expr_at n) n (expr_complete n) k p ts rest lt h f
