-- What is read is spelled so, and is well-formed.
use Rattle.std.proofs.Common.{◌≡◌, ℕ, zero, suc, ◌+◌, ◌<◌, ◌≤◌, List, [], ◌∷◌, ◌++◌, length, map, refl, subst, sym, ap, ◌∙◌, arith, Bool, true, false, ◌&&◌, cond, ltb, leb, eqb, Option, Some, None, inl, inr, ◌⊎◌, append_assoc}
use Rattle.std.proofs.lemmas.Bool.{ltb-false, ltb-true, leb-true, le-leb}
use Rattle.std.specs.List.{flat_map}
use Rattle.std.proofs.lemmas.List.{append-nil}
use Rattle.cl_tree.specs.declared.kinds.UnOp.{UnOp}
use Rattle.cl_tree.specs.declared.kinds.UnOp.TheVariants as unary
use Rattle.cl_tree.specs.declared.kinds.BinOp.{BinOp}
use Rattle.cl_tree.specs.declared.kinds.BinOp.TheVariants as binary
use Rattle.cl_tree.specs.declared.token.Mark.{Mark}
use Rattle.cl_tree.specs.declared.token.Mark.TheVariants as mark
use Rattle.cl_tree.specs.declared.grammar.Base.{Base}
use Rattle.cl_tree.specs.declared.grammar.Sign.{Sign}
use Rattle.cl_tree.specs.declared.grammar.Sign.TheVariants as sign
use Rattle.cl_tree.specs.declared.grammar.Terminal.{Terminal}
use Rattle.cl_tree.specs.declared.tree.CType.{CType}
use Rattle.cl_tree.specs.declared.tree.Expr.{Expr}
use Rattle.cl_tree.specs.declared.tree.Node.{Node, Node-F, out-Node}
use Rattle.cl_tree.specs.declared.tree.Node.TheOpen as node
use Rattle.cl_tree.specs.declared.tree.Node.TheVariants as made
use Rattle.cl_tree.specs.declared.tree.Node.TheVariants.{outs-Number, outs-Real, outs-Letter, outs-Text, outs-Variable, outs-Unary, outs-Binary, outs-Choice, outs-Cast, outs-Call, outs-Index, outs-Member, outs-Arrow, outs-Paren}
use Rattle.cl_tree.specs.Words.{Word}
use Rattle.cl_tree.specs.Spelling.{Spelling, put, put_mark, mark_on, first_on, Fits, Reads, TypeShape, type_shape, type_name, is_empty, held_by, holder, star_lines, floating_lines, other_lines, base_on, stars_on, Shape, node_step, shape, binds, commas, all_proper, unary_mark, binary_mark, leaf}
use Rattle.cl_parse_expr.specs.declared.cursor.Fixed.{Fixed}
use Rattle.cl_parse_expr.specs.declared.cursor.Fixed.TheVariants as fixed
use Rattle.cl_parse_expr.specs.declared.cursor.Link.{Link}
use Rattle.cl_parse_expr.specs.declared.cursor.Link.TheVariants as link
use Rattle.cl_parse_expr.specs.declared.cursor.Start.{Start}
use Rattle.cl_parse_expr.specs.declared.cursor.Start.TheVariants as start
use Rattle.cl_parse_expr.specs.Cursor.{◌>>=◌, Terminals, after, found, name_at, start_of, mark_link, link_of, pull, link_at, line_of}
use Rattle.cl_parse_expr.specs.Types.{base_at, type_of, pointers_at, second_at}
use Rattle.cl_parse_expr.specs.Reading.{Reader, tree, opening, close, comma, more_at, args_at, cast_from, cast_at, paren_at, start_step, head_step, head_of, grow, loop_of, expr_of, expr_at}
use Rattle.cl_parse_expr.proofs.Shapes.{shaped, shape_made, edge_of, edge, edge_is, edge_open, IsEdge, binds_from, binds_to}
use Rattle.cl_parse_expr.proofs.Marks.{some_of, some_is, and_intro, and_elim, reads_append, reads_split, found_sound, bind_some, found_ok, name_sound}
use Rattle.cl_parse_expr.proofs.First.{begun}
use Rattle.cl_parse_expr.proofs.TypeNames.{shape_of, base_sound, Pointed, pointers_sound, plain_is, second_line, star_fits, floating_fits, other_fits}

-- how tightly the first terminal binds
abbrev pub pull_at : Terminals → ℕ
pull_at [] = 0
pull_at (t ∷ ts) = pull (link_of t.what)

-- An expression that was read, and may be continued still: at least of a level, from the start, up to the rest.
pub record Left (k : ℕ) (p : Expr) (start rest : Terminals) : Type 0 where
  pub reads : Reads (shape p).spelling start rest
  pub proper : (shape p).proper ≡ true
  pub level : k ≤ (shape p).level
  pub stops : pull_at rest < edge p

-- and one that is whole
pub record Whole (k : ℕ) (p : Expr) (start rest : Terminals) : Type 0 where
  pub left : Left k p start rest
  pub ends : pull_at rest < k

abbrev pub Sound : Reader → Type 0
Sound E = (k : ℕ) (ts : Terminals) (x : Expr × Terminals) → 1 ≤ k → k ≤ 12 → E k ts ≡ Some x → Whole k x.0 ts x.1

-- ---- links

abbrev op_of : Link → BinOp
op_of (link.Binary op) = op
op_of _ = binary.Or

prefix_of : Start → UnOp
prefix_of (start.Prefix op) = op
prefix_of _ = unary.Minus

binary_link_step : (m : Mark) (op : BinOp) → mark_link m ≡ link.Binary op → m ≡ binary_mark (op_of (mark_link m))
binary_link_step mark.BarBar op e = refl
binary_link_step mark.AmpAmp op e = refl
binary_link_step mark.Bar op e = refl
binary_link_step mark.Caret op e = refl
binary_link_step mark.Amp op e = refl
binary_link_step mark.Equal op e = refl
binary_link_step mark.Unequal op e = refl
binary_link_step mark.Less op e = refl
binary_link_step mark.Greater op e = refl
binary_link_step mark.AtMost op e = refl
binary_link_step mark.AtLeast op e = refl
binary_link_step mark.LeftShift op e = refl
binary_link_step mark.RightShift op e = refl
binary_link_step mark.Plus op e = refl
binary_link_step mark.Minus op e = refl
binary_link_step mark.Star op e = refl
binary_link_step mark.Slash op e = refl
binary_link_step mark.Percent op e = refl
binary_link_step _ op e = absurd cc

binary_link : (m : Mark) (op : BinOp) → mark_link m ≡ link.Binary op → m ≡ binary_mark op
binary_link m op e = binary_link_step m op e ∙ ap (λ (x : Link). binary_mark (op_of x)) e

choice_link : (m : Mark) → mark_link m ≡ link.Choice → m ≡ mark.Question
choice_link mark.Question e = refl
choice_link _ e = absurd cc

index_link : (m : Mark) → mark_link m ≡ link.Index → m ≡ mark.OpenBracket
index_link mark.OpenBracket e = refl
index_link _ e = absurd cc

member_link : (m : Mark) → mark_link m ≡ link.Member → m ≡ mark.Dot
member_link mark.Dot e = refl
member_link _ e = absurd cc

arrow_link : (m : Mark) → mark_link m ≡ link.Arrow → m ≡ mark.Arrow
arrow_link mark.Arrow e = refl
arrow_link _ e = absurd cc

-- the sign of a link
abbrev pub link_sign : Link → Mark
link_sign link.Nothing = mark.Hash
link_sign link.Choice = mark.Question
link_sign (link.Binary op) = binary_mark op
link_sign link.Index = mark.OpenBracket
link_sign link.Member = mark.Dot
link_sign link.Arrow = mark.Arrow

mark_links : (m : Mark) (x : Link) → (x ≡ link.Nothing → ⊥) → mark_link m ≡ x → m ≡ link_sign x
mark_links m link.Nothing h e = absurd (h refl)
mark_links m link.Choice h e = choice_link m e
mark_links m (link.Binary op) h e = binary_link m op e
mark_links m link.Index h e = index_link m e
mark_links m link.Member h e = member_link m e
mark_links m link.Arrow h e = arrow_link m e

pub links_sign : (s : Sign) (x : Link) → (x ≡ link.Nothing → ⊥) → link_of s ≡ x → s ≡ sign.Mark (link_sign x)
links_sign (sign.Mark m) x h e = ap (λ (y : Mark). sign.Mark y) (mark_links m x h e)
links_sign _ x h e = absurd (h (sym e))

prefix_step : (m : Mark) (op : UnOp) → start_of m ≡ start.Prefix op → m ≡ unary_mark (prefix_of (start_of m))
unfolding prefix_of
prefix_step mark.Minus op e = refl
prefix_step mark.Plus op e = refl
prefix_step mark.Tilde op e = refl
prefix_step mark.Bang op e = refl
prefix_step mark.Star op e = refl
prefix_step mark.Amp op e = refl
prefix_step _ op e = absurd cc

pub prefix_mark : (m : Mark) (op : UnOp) → start_of m ≡ start.Prefix op → m ≡ unary_mark op
unfolding prefix_of
prefix_mark m op e = prefix_step m op e ∙ ap (λ (x : Start). unary_mark (prefix_of x)) e

pub group_mark : (m : Mark) → start_of m ≡ start.Group → m ≡ mark.OpenParen
group_mark mark.OpenParen e = refl
group_mark _ e = absurd cc

-- a link that is taken
pub record Taken (k : ℕ) (ts : Terminals) (x : Link) (line : ℕ) (next : Terminals) : Type 0 where
  pub terminal : Terminal
  pub is : ts ≡ terminal ∷ next
  pub links : link_of terminal.what ≡ x
  pub at_line : terminal.line ≡ line
  pub level : k ≤ pull x

taken_step : (k : ℕ) (t : Terminal) (ts : Terminals) (x : Link × ℕ × Terminals) (b : Bool) → ltb (pull (link_of t.what)) k ≡ b → cond b None (some_of {A = Link × ℕ × Terminals} (link_of t.what, t.line, ts)) ≡ Some x → Taken k (t ∷ ts) x.0 x.1 x.2
taken_step k t ts x true e f = absurd cc
taken_step k t ts x false e f =
    subst (λ (y : Link × ℕ × Terminals). Taken k (t ∷ ts) y.0 y.1 y.2) (some_is (link_of t.what, t.line, ts) x f)
    (record { terminal = t; is = refl; links = refl; at_line = refl; level = ltb-false _ _ e })

pub link_sound : (k : ℕ) (ts : Terminals) (x : Link × ℕ × Terminals) → link_at k ts ≡ Some x → Taken k ts x.0 x.1 x.2
unfolding link_at
link_sound k [] x e = absurd cc
link_sound k (t ∷ ts) x e = taken_step k t ts x (ltb (pull (link_of t.what)) k) refl e

stop_step : (k : ℕ) (t : Terminal) (ts : Terminals) (b : Bool) → ltb (pull (link_of t.what)) k ≡ b → cond b None (some_of {A = Link × ℕ × Terminals} (link_of t.what, t.line, ts)) ≡ None → pull (link_of t.what) < k
stop_step k t ts true e f = ltb-true _ _ e
stop_step k t ts false e f = absurd cc

pub link_none : (k : ℕ) (ts : Terminals) → 1 ≤ k → link_at k ts ≡ None → pull_at ts < k
unfolding link_at
link_none k [] h e = h
link_none k (t ∷ ts) h e = stop_step k t ts (ltb (pull (link_of t.what)) k) refl e

pub pull_to : (x : Link) → pull x ≤ 14
pull_to link.Nothing = omega arith
pull_to link.Choice = omega arith
pull_to (link.Binary op) = omega (arith, binds_to op)
pull_to link.Index = omega arith
pull_to link.Member = omega arith
pull_to link.Arrow = omega arith

pub pull_at_to : (ts : Terminals) → pull_at ts < 15
pull_at_to [] = omega arith
pull_at_to (t ∷ ts) = omega (arith, pull_to (link_of t.what))

-- ---- an expression in the making

-- a tree that was built, of which one level is known
built : (k l s : ℕ) (n : Node) (x : Node-F Node Expr) (start rest : Terminals) → out-Node n ≡ x → Reads (node_step (shaped x) l s).spelling start rest → (node_step (shaped x) l s).proper ≡ true → k ≤ (node_step (shaped x) l s).level → pull_at rest < edge_of x → Left k (tree l s n) start rest
built k l s n x start rest o r p v e =
    let q = shape_made l s n x o in
    record {
      reads = subst (λ (y : Shape). Reads y.spelling start rest) (sym q) r;
      proper = subst (λ (y : Shape). y.proper ≡ true) (sym q) p;
      level = subst (λ (y : Shape). k ≤ y.level) (sym q) v;
      stops = subst (λ (y : ℕ). pull_at rest < y) (sym (edge_open (tree l s n) x o)) e;
    }

-- ---- arguments

-- the arguments that were read, from the start up to the rest
pub record Listed (ps : List Expr) (start rest : Terminals) : Type 0 where
  pub reads : Reads (flat_map (put_mark mark.Comma) (map (λ s. s.spelling) (map shape ps)) ++ put_mark mark.CloseParen []) start rest
  pub proper : all_proper (map shape ps) ≡ true

-- what a step adds
more_sound : (E : Reader) → Sound E → (m : ℕ) (done : List Expr) (ts : Terminals) (x : List Expr × Terminals) → more_at E m done ts ≡ Some x → (ps : List Expr) × (x.0 ≡ done ++ ps) × Listed ps ts x.1
unfolding more_at
more_sound E sound zero done ts x e = absurd cc
more_sound E sound (suc m) done ts x e =
    elim (found_ok (after comma ts) (λ c. E 1 c.1 >>= λ r. more_at E m (done ++ r.0 ∷ []) r.1) (after close ts >>= λ r. Some (done, r.1)) (Some x) e) [
      | inl h ↦
          let b = bind_some (after close ts) (λ r. Some (done, r.1)) x h.1 in
          let q = some_is (done, b.0.1) x b.2 in
          let done-is : x.0 ≡ done = sym (ap (λ (y : List Expr × Terminals). y.0) q) in
          let rest-is : b.0.1 ≡ x.1 = ap (λ (y : List Expr × Terminals). y.1) q in
          ([], done-is ∙ sym (append-nil done), record { reads = found_sound close [] [] ts x.1 b.0 b.1 tt rest-is; proper = refl })
      | inr h ↦
          let b = bind_some (E 1 h.0.1) (λ r. more_at E m (done ++ r.0 ∷ []) r.1) x h.2 in
          let p = b.0.0 in
          let w = sound 1 h.0.1 b.0 (omega arith) (omega arith) b.1 in
          let r = more_sound E sound m (done ++ p ∷ []) b.0.1 x b.2 in
          let ps = r.0 in (
            p ∷ ps,
            r.1 ∙ append_assoc done (p ∷ []) ps,
            record {
              reads = subst (λ (ms : Spelling). Reads ms ts x.1) (sym (append_assoc (put_mark mark.Comma (shape p).spelling) (flat_map (put_mark mark.Comma) (map (λ s. s.spelling) (map shape ps))) (put_mark mark.CloseParen [])))
                  (found_sound comma [] _ ts x.1 h.0 h.1 tt (reads_append (shape p).spelling _ h.0.1 b.0.1 x.1 w.left.reads r.2.reads));
              proper = and_intro _ _ w.left.proper r.2.proper;
            },
          )
    ]

args_sound : (E : Reader) → Sound E → (ts : Terminals) (x : List Expr × Terminals) → args_at E ts ≡ Some x → Reads (commas (map (λ s. s.spelling) (map shape x.0)) ++ put_mark mark.CloseParen []) ts x.1 × (all_proper (map shape x.0) ≡ true)
unfolding args_at
args_sound E sound ts x e =
    elim (found_ok (after close ts) (λ c. Some ([], c.1)) (E 1 ts >>= λ r. more_at E (length r.1) (r.0 ∷ []) r.1) (Some x) e) [
      | inl h ↦
          let b = bind_some (E 1 ts) (λ r. more_at E (length r.1) (r.0 ∷ []) r.1) x h.1 in
          let p = b.0.0 in
          let w = sound 1 ts b.0 (omega arith) (omega arith) b.1 in
          let r = more_sound E sound (length b.0.1) (p ∷ []) b.0.1 x b.2 in
          let all : p ∷ r.0 ≡ x.0 = sym r.1 in
          subst (λ (ps : List Expr). Reads (commas (map (λ s. s.spelling) (map shape ps)) ++ put_mark mark.CloseParen []) ts x.1 × (all_proper (map shape ps) ≡ true)) all (
            subst (λ (ms : Spelling). Reads ms ts x.1) (sym (append_assoc (shape p).spelling (flat_map (put_mark mark.Comma) (map (λ s. s.spelling) (map shape r.0))) (put_mark mark.CloseParen [])))
                (reads_append (shape p).spelling _ ts b.0.1 x.1 w.left.reads r.2.reads),
            and_intro _ _ w.left.proper r.2.proper,
          )
      | inr h ↦
          let q = some_is ([], h.0.1) x h.2 in
          let rest-is : h.0.1 ≡ x.1 = ap (λ (y : List Expr × Terminals). y.1) q in
          let none : [] ≡ x.0 = ap (λ (y : List Expr × Terminals). y.0) q in
          subst (λ (ps : List Expr). Reads (commas (map (λ s. s.spelling) (map shape ps)) ++ put_mark mark.CloseParen []) ts x.1 × (all_proper (map shape ps) ≡ true)) none
          (found_sound close [] [] ts x.1 h.0 h.1 tt rest-is, refl)
    ]

-- ---- the head of an expression: of level 12 at least

abbrev Headed : Expr × Terminals → Terminals → Type 0
Headed x ts = Left 12 x.0 ts x.1

-- a type that was read, with what follows it
pub name_spelled : (b : Base) (f o : ℕ) (ts : Terminals) (t : CType) (next : Terminals) (p : Pointed b 0 ts (t, next)) (ms : Spelling) (rest : Terminals) → Reads ms next rest → Reads (stars_on (star_lines (held_by t) (second_at b f o ts)) (type_shape t).stars ms) ts rest
name_spelled b f o ts t next p ms rest r =
    let n : p.count + 0 ≡ p.count = omega arith in
    let e : type_shape t ≡ shape_of b p.count [] = p.shape ∙ ap (λ (y : ℕ). shape_of b y []) n in
    let s = p.second f o in
    subst (λ (y : TypeShape). Reads (stars_on (star_lines (holder y.stars y.base) (second_at b f o ts)) y.stars ms) ts rest) (sym e)
    (p.reads (star_lines (holder p.count b) (second_at b f o ts)) ms rest (subst (λ (y : ℕ). Fits (star_lines (holder p.count b) y) (line_of ts)) (sym s) (star_fits (holder p.count b) (line_of ts) f o)) r)

-- the lines of the second line's other two places
pub other_place : (b : Base) (f o : ℕ) (ts : Terminals) (t : CType) (next : Terminals) (p : Pointed b 0 ts (t, next)) → Fits (other_lines (held_by t) (second_at b f o ts)) o
other_place b f o ts t next p =
    let n : p.count + 0 ≡ p.count = omega arith in
    let e : type_shape t ≡ shape_of b p.count [] = p.shape ∙ ap (λ (y : ℕ). shape_of b y []) n in
    subst (λ (y : TypeShape). Fits (other_lines (holder y.stars y.base) (second_at b f o ts)) o) (sym e)
    (subst (λ (y : ℕ). Fits (other_lines (holder p.count b) y) o) (sym (p.second f o)) (other_fits (holder p.count b) (line_of ts) f o))

pub floating_place : (b : Base) (f o : ℕ) (ts : Terminals) (t : CType) (next : Terminals) (p : Pointed b 0 ts (t, next)) → Fits (floating_lines (held_by t) (second_at b f o ts)) f
floating_place b f o ts t next p =
    let n : p.count + 0 ≡ p.count = omega arith in
    let e : type_shape t ≡ shape_of b p.count [] = p.shape ∙ ap (λ (y : ℕ). shape_of b y []) n in
    subst (λ (y : TypeShape). Fits (floating_lines (holder y.stars y.base) (second_at b f o ts)) f) (sym e)
    (subst (λ (y : ℕ). Fits (floating_lines (holder p.count b) y) f) (sym (p.second f o)) (floating_fits (holder p.count b) (line_of ts) f o))

pub base_place : (b : Base) (ts : Terminals) (t : CType) (next : Terminals) (p : Pointed b 0 ts (t, next)) → (type_shape t).base ≡ b
base_place b ts t next p = ap (λ (y : TypeShape). y.base) p.shape

pub type_place : (b : Base) (ts : Terminals) (t : CType) (next : Terminals) (p : Pointed b 0 ts (t, next)) → (is_empty (type_shape t).dims && (type_shape t).proper) ≡ true
type_place b ts t next p = subst (λ (y : TypeShape). (is_empty y.dims && y.proper) ≡ true) (sym p.shape) refl

cast_sound : (E : Reader) → Sound E → (t : Terminal) → t.what ≡ sign.Mark mark.OpenParen → (us : Terminals) (b : Base × ℕ × Terminals) → base_at us ≡ Some b → (x : Expr × Terminals) → cast_at E t.line b.0 b.1 b.2 ≡ Some x → Headed x (t ∷ us)
unfolding cast_at cast_from
cast_sound E sound t is us b found-base x e =
    let p = pointers_at (length b.2) (type_of b.0) b.2 in
    let w = pointers_sound (length b.2) b.0 0 (type_of b.0) b.2 (omega arith) (plain_is b.0) in
    let second = second_at b.0 b.1 t.line b.2 in
    let c = bind_some (after close p.1) (λ c. E 12 c.1 >>= λ e. Some (tree t.line second (made.Cast p.0 e.0), e.1)) x e in
    let i = bind_some (E 12 c.0.1) (λ e. Some (tree t.line second (made.Cast p.0 e.0), e.1)) x c.2 in
    let v = sound 12 c.0.1 i.0 (omega arith) (omega arith) i.1 in
    let z = some_is (tree t.line second (made.Cast p.0 i.0.0), i.0.1) x i.2 in
    let inside : Spelling = put_mark mark.CloseParen (shape i.0.0).spelling in
    let closed = found_sound close [] (shape i.0.0).spelling p.1 i.0.1 c.0 c.1 tt v.left.reads in
    let stars = name_spelled b.0 b.1 t.line b.2 p.0 p.1 w inside i.0.1 closed in
    let named : Reads (type_name [] p.0 second inside) us i.0.1 =
    subst (λ (y : Base). Reads (base_on (floating_lines (held_by p.0) second) y (stars_on (star_lines (held_by p.0) second) (type_shape p.0).stars inside)) us i.0.1) (sym (base_place b.0 b.2 p.0 p.1 w))
    (base_sound us b found-base (floating_lines (held_by p.0) second) _ i.0.1 (floating_place b.0 b.1 t.line b.2 p.0 p.1 w) stars) in
    subst (λ (y : Expr × Terminals). Headed y (t ∷ us)) z
    (built 12 t.line second (made.Cast p.0 i.0.0) (node.Cast p.0 i.0.0) (t ∷ us) i.0.1 (outs-Cast p.0 i.0.0)
    (is, (refl, other_place b.0 b.1 t.line b.2 p.0 p.1 w), named)
    (and_intro _ _ (type_place b.0 b.2 p.0 p.1 w) (and_intro _ _ (le-leb 12 _ v.left.level) v.left.proper)) (omega arith) v.ends)

paren_sound : (E : Reader) → Sound E → (t : Terminal) → t.what ≡ sign.Mark mark.OpenParen → (ts : Terminals) (x : Expr × Terminals) → paren_at E t.line ts ≡ Some x → Headed x (t ∷ ts)
unfolding paren_at
paren_sound E sound t is ts x e =
    let b = bind_some (E 1 ts) (λ r. after close r.1 >>= λ c. Some (tree t.line t.line (made.Paren r.0), c.1)) x e in
    let c = bind_some (after close b.0.1) (λ c. Some (tree t.line t.line (made.Paren b.0.0), c.1)) x b.2 in
    let w = sound 1 ts b.0 (omega arith) (omega arith) b.1 in
    let z = some_is (tree t.line t.line (made.Paren b.0.0), c.0.1) x c.2 in
    subst (λ (y : Expr × Terminals). Headed y (t ∷ ts)) z
    (built 12 t.line t.line (made.Paren b.0.0) (node.Paren b.0.0) (t ∷ ts) c.0.1 (outs-Paren b.0.0)
    (is, (refl, (refl, tt)), reads_append (shape b.0.0).spelling _ ts b.0.1 c.0.1 w.left.reads (found_sound close [] [] b.0.1 c.0.1 c.0 c.1 tt refl))
    w.left.proper (omega arith) (pull_at_to c.0.1))

start_sound : (E : Reader) → Sound E → (t : Terminal) (m : Mark) → t.what ≡ sign.Mark m → (y : Start) → start_of m ≡ y → (ts : Terminals) (x : Expr × Terminals) → start_step E t.line y ts ≡ Some x → Headed x (t ∷ ts)
unfolding start_step
start_sound E sound t m is start.Nothing q ts x e = absurd cc
start_sound E sound t m is start.Group q ts x e =
    let open-is : t.what ≡ sign.Mark mark.OpenParen = is ∙ ap (λ (u : Mark). sign.Mark u) (group_mark m q) in
    elim (found_ok (base_at ts) (λ b. cast_at E t.line b.0 b.1 b.2) (paren_at E t.line ts) (Some x) e) [
      | inl h ↦ paren_sound E sound t open-is ts x h.1
      | inr h ↦ cast_sound E sound t open-is ts h.0 h.1 x h.2
    ]
start_sound E sound t m is (start.Prefix op) q ts x e =
    let b = bind_some (E 12 ts) (λ r. Some (tree t.line t.line (made.Unary op r.0), r.1)) x e in
    let w = sound 12 ts b.0 (omega arith) (omega arith) b.1 in
    let z = some_is (tree t.line t.line (made.Unary op b.0.0), b.0.1) x b.2 in
    subst (λ (y : Expr × Terminals). Headed y (t ∷ ts)) z
    (built 12 t.line t.line (made.Unary op b.0.0) (node.Unary op b.0.0) (t ∷ ts) b.0.1 (outs-Unary op b.0.0)
    (is ∙ ap (λ (u : Mark). sign.Mark u) (prefix_mark m op q), (refl, (refl, tt)), w.left.reads)
    (and_intro _ _ (le-leb 12 _ w.left.level) w.left.proper) (omega arith) w.ends)

-- one terminal that is an expression
leaf_sound : (t : Terminal) (s : Sign) → t.what ≡ s → (n : Node) (v : Node-F Node Expr) → out-Node n ≡ v → node_step (shaped v) t.line t.line ≡ leaf s t.line t.line → edge_of v ≡ 15 → (ts : Terminals) (x : Expr × Terminals) → some_of {A = Expr × Terminals} (tree t.line t.line n, ts) ≡ Some x → Headed x (t ∷ ts)
leaf_sound t s is n v o step high ts x e =
    let z = some_is (tree t.line t.line n, ts) x e in
    subst (λ (y : Expr × Terminals). Headed y (t ∷ ts)) z
    (built 12 t.line t.line n v (t ∷ ts) ts o
    (subst (λ (y : Shape). Reads y.spelling (t ∷ ts) ts) (sym step) (is, (refl, (refl, tt)), refl))
    (subst (λ (y : Shape). y.proper ≡ true) (sym step) refl)
    (subst (λ (y : Shape). 12 ≤ y.level) (sym step) (omega arith))
    (subst (λ (y : ℕ). pull_at ts < y) (sym high) (pull_at_to ts)))

head_sound_step : (E : Reader) → Sound E → (t : Terminal) (y : Sign) → t.what ≡ y → (ts : Terminals) (x : Expr × Terminals) → head_step E t.line y ts ≡ Some x → Headed x (t ∷ ts)
head_sound_step E sound t (sign.Integer v k) is ts x e = leaf_sound t _ is (made.Number v k) (node.Number v k) (outs-Number v k) refl refl ts x e
head_sound_step E sound t sign.Floating is ts x e = leaf_sound t _ is made.Real node.Real outs-Real refl refl ts x e
head_sound_step E sound t (sign.Letter b) is ts x e = leaf_sound t _ is (made.Letter b) (node.Letter b) (outs-Letter b) refl refl ts x e
head_sound_step E sound t (sign.Text bs) is ts x e = leaf_sound t _ is (made.Text bs) (node.Text bs) (outs-Text bs) refl refl ts x e
head_sound_step E sound t (sign.Name n) is ts x e =
    elim (found_ok (after opening ts) (λ o. args_at E o.1 >>= λ r. Some (tree t.line t.line (made.Call n r.0), r.1)) (Some (tree t.line t.line (made.Variable n), ts)) (Some x) e) [
      | inl h ↦ leaf_sound t _ is (made.Variable n) (node.Variable n) (outs-Variable n) refl refl ts x h.1
      | inr h ↦
          let b = bind_some (args_at E h.0.1) (λ r. Some (tree t.line t.line (made.Call n r.0), r.1)) x h.2 in
          let a = args_sound E sound h.0.1 b.0 b.1 in
          let z = some_is (tree t.line t.line (made.Call n b.0.0), b.0.1) x b.2 in
          subst (λ (y : Expr × Terminals). Headed y (t ∷ ts)) z
          (built 12 t.line t.line (made.Call n b.0.0) (node.Call n b.0.0) (t ∷ ts) b.0.1 (outs-Call n b.0.0)
          (is, (refl, (refl, tt)), found_sound opening [] _ ts b.0.1 h.0 h.1 tt a.0) a.1 (omega arith) (pull_at_to b.0.1))
    ]
head_sound_step E sound t (sign.Mark m) is ts x e = start_sound E sound t m is (start_of m) refl ts x e
head_sound_step E sound t _ is ts x e = absurd cc

head_sound : (E : Reader) → Sound E → (ts : Terminals) (x : Expr × Terminals) → head_of E ts ≡ Some x → Headed x ts
unfolding head_of
head_sound E sound [] x e = absurd cc
head_sound E sound (t ∷ ts) x e = head_sound_step E sound t t.what refl ts x e

-- ---- what a link adds

link_reads : (k : ℕ) (ts : Terminals) (x : Link) (line : ℕ) (next rest : Terminals) (lines : List ℕ) (ms : Spelling) → (x ≡ link.Nothing → ⊥) → (t : Taken k ts x line next) → Fits lines line → Reads ms next rest → Reads (mark_on lines (link_sign x) ms) ts rest
link_reads k ts x line next rest lines ms some t fits r =
    subst (λ (u : Terminals). Reads (mark_on lines (link_sign x) ms) u rest) (sym t.is) (links_sign t.terminal.what x some t.links, subst (λ (y : ℕ). Fits lines y) (sym t.at_line) fits, r)

pulls : (k : ℕ) (ts : Terminals) (x : Link) (line : ℕ) (next : Terminals) (t : Taken k ts x line next) (n : ℕ) → pull_at ts < n → pull x < n
pulls k ts x line next t n h =
    let a : pull_at ts ≡ pull (link_of t.terminal.what) = ap pull_at t.is in
    let b : pull (link_of t.terminal.what) ≡ pull x = ap pull t.links in
    omega arith

grow_sound : (E : Reader) → Sound E → (k : ℕ) (p : Expr) (start ts : Terminals) → Left k p start ts → (y : Link) (line : ℕ) (next : Terminals) → Taken k ts y line next → (x : Expr × Terminals) → grow E p line y next ≡ Some x → Left k x.0 start x.1
unfolding grow
grow_sound E sound k p start ts l link.Nothing line next t x e = absurd cc
grow_sound E sound k p start ts l (link.Binary op) line next t x e =
    let b = bind_some (E (suc (binds op)) next) (λ r. Some (tree p.line line (made.Binary op p r.0), r.1)) x e in
    let q = b.0.0 in
    let w = sound (suc (binds op)) next b.0 (omega arith) (omega (arith, binds_to op)) b.1 in
    let z = some_is (tree p.line line (made.Binary op p q), b.0.1) x b.2 in
    let g = edge_is p in
    let above = g.above in
    let below : binds op < edge p = pulls k ts (link.Binary op) line next t (edge p) l.stops in
    let high : binds op ≤ (shape p).level = omega arith in
    subst (λ (y : Expr × Terminals). Left k y.0 start y.1) z
    (built k p.line line (made.Binary op p q) (node.Binary op p q) start b.0.1 (outs-Binary op p q)
    (reads_append (first_on (p.line ∷ []) (shape p).spelling) _ start ts b.0.1 (begun (p.line ∷ []) p start ts (refl, tt) l.reads) (link_reads k ts (link.Binary op) line next b.0.1 (line ∷ []) (shape q).spelling (λ n. cc) t (refl, tt) w.left.reads))
    (and_intro _ _ (and_intro _ _ (le-leb (binds op) _ high) (le-leb (suc (binds op)) _ w.left.level)) (and_intro _ _ l.proper w.left.proper))
    t.level w.ends)
grow_sound E sound k p start ts l link.Choice line next t x e =
    let a = bind_some (E 1 next) (λ a. after (fixed.Mark mark.Colon) a.1 >>= λ c. E 1 c.1 >>= λ b. Some (tree p.line p.line (made.Choice p a.0 b.0), b.1)) x e in
    let c = bind_some (after (fixed.Mark mark.Colon) a.0.1) (λ c. E 1 c.1 >>= λ b. Some (tree p.line p.line (made.Choice p a.0.0 b.0), b.1)) x a.2 in
    let b = bind_some (E 1 c.0.1) (λ b. Some (tree p.line p.line (made.Choice p a.0.0 b.0), b.1)) x c.2 in
    let u = sound 1 next a.0 (omega arith) (omega arith) a.1 in
    let w = sound 1 c.0.1 b.0 (omega arith) (omega arith) b.1 in
    let z = some_is (tree p.line p.line (made.Choice p a.0.0 b.0.0), b.0.1) x b.2 in
    let g = edge_is p in
    let below : 1 < edge p = pulls k ts link.Choice line next t (edge p) l.stops in
    subst (λ (y : Expr × Terminals). Left k y.0 start y.1) z
    (built k p.line p.line (made.Choice p a.0.0 b.0.0) (node.Choice p a.0.0 b.0.0) start b.0.1 (outs-Choice p a.0.0 b.0.0)
    (reads_append (first_on (p.line ∷ p.line ∷ []) (shape p).spelling) _ start ts b.0.1 (begun (p.line ∷ p.line ∷ []) p start ts (refl, (refl, tt)) l.reads) (link_reads k ts link.Choice line next b.0.1 [] _ (λ n. cc) t tt
    (reads_append (shape a.0.0).spelling _ next a.0.1 b.0.1 u.left.reads (found_sound (fixed.Mark mark.Colon) [] (shape b.0.0).spelling a.0.1 b.0.1 c.0 c.1 tt w.left.reads))))
    (and_intro _ _ (le-leb 2 _ (g.choice below)) (and_intro _ _ l.proper (and_intro _ _ u.left.proper w.left.proper)))
    t.level w.ends)
grow_sound E sound k p start ts l link.Index line next t x e =
    let a = bind_some (E 1 next) (λ i. after (fixed.Mark mark.CloseBracket) i.1 >>= λ c. Some (tree p.line line (made.Index p i.0), c.1)) x e in
    let c = bind_some (after (fixed.Mark mark.CloseBracket) a.0.1) (λ c. Some (tree p.line line (made.Index p a.0.0), c.1)) x a.2 in
    let u = sound 1 next a.0 (omega arith) (omega arith) a.1 in
    let z = some_is (tree p.line line (made.Index p a.0.0), c.0.1) x c.2 in
    let g = edge_is p in
    let below : 14 < edge p = pulls k ts link.Index line next t (edge p) l.stops in
    subst (λ (y : Expr × Terminals). Left k y.0 start y.1) z
    (built k p.line line (made.Index p a.0.0) (node.Index p a.0.0) start c.0.1 (outs-Index p a.0.0)
    (reads_append (first_on (p.line ∷ []) (shape p).spelling) _ start ts c.0.1 (begun (p.line ∷ []) p start ts (refl, tt) l.reads) (link_reads k ts link.Index line next c.0.1 (line ∷ []) _ (λ n. cc) t (refl, tt)
    (reads_append (shape a.0.0).spelling _ next a.0.1 c.0.1 u.left.reads (found_sound (fixed.Mark mark.CloseBracket) [] [] a.0.1 c.0.1 c.0 c.1 tt refl))))
    (and_intro _ _ (le-leb 14 _ (g.after below)) (and_intro _ _ l.proper u.left.proper))
    t.level (pull_at_to c.0.1))
grow_sound E sound k p start ts l link.Member line next t x e =
    let n = bind_some (name_at next) (λ n. Some (tree p.line p.line (made.Member p n.0), n.2)) x e in
    let z = some_is (tree p.line p.line (made.Member p n.0.0), n.0.2) x n.2 in
    let g = edge_is p in
    let below : 14 < edge p = pulls k ts link.Member line next t (edge p) l.stops in
    subst (λ (y : Expr × Terminals). Left k y.0 start y.1) z
    (built k p.line p.line (made.Member p n.0.0) (node.Member p n.0.0) start n.0.2 (outs-Member p n.0.0)
    (reads_append (first_on (p.line ∷ p.line ∷ []) (shape p).spelling) _ start ts n.0.2 (begun (p.line ∷ p.line ∷ []) p start ts (refl, (refl, tt)) l.reads) (link_reads k ts link.Member line next n.0.2 [] (put (sign.Name n.0.0) []) (λ n. cc) t tt (name_sound [] [] next n.0.2 n.0 n.1 tt refl)))
    (and_intro _ _ (le-leb 14 _ (g.after below)) l.proper)
    t.level (pull_at_to n.0.2))
grow_sound E sound k p start ts l link.Arrow line next t x e =
    let n = bind_some (name_at next) (λ n. Some (tree p.line line (made.Arrow p n.0), n.2)) x e in
    let z = some_is (tree p.line line (made.Arrow p n.0.0), n.0.2) x n.2 in
    let g = edge_is p in
    let below : 14 < edge p = pulls k ts link.Arrow line next t (edge p) l.stops in
    subst (λ (y : Expr × Terminals). Left k y.0 start y.1) z
    (built k p.line line (made.Arrow p n.0.0) (node.Arrow p n.0.0) start n.0.2 (outs-Arrow p n.0.0)
    (reads_append (first_on (p.line ∷ []) (shape p).spelling) _ start ts n.0.2 (begun (p.line ∷ []) p start ts (refl, tt) l.reads) (link_reads k ts link.Arrow line next n.0.2 (line ∷ []) (put (sign.Name n.0.0) []) (λ n. cc) t (refl, tt) (name_sound [] [] next n.0.2 n.0 n.1 tt refl)))
    (and_intro _ _ (le-leb 14 _ (g.after below)) l.proper)
    t.level (pull_at_to n.0.2))

loop_sound : (E : Reader) → Sound E → (m k : ℕ) (p : Expr) (start ts : Terminals) → 1 ≤ k → Left k p start ts → (x : Expr × Terminals) → loop_of E m k p ts ≡ Some x → Whole k x.0 start x.1
unfolding loop_of
loop_sound E sound zero k p start ts one l x e = absurd cc
loop_sound E sound (suc m) k p start ts one l x e =
    elim (found_ok (link_at k ts) (λ y. grow E p y.1 y.0 y.2 >>= λ r. loop_of E m k r.0 r.1) (Some (p, ts)) (Some x) e) [
      | inl h ↦
          let z = some_is (p, ts) x h.1 in
          let w : Whole k p start ts = record { left = l; ends = link_none k ts one h.0 } in
          subst (λ (y : Expr × Terminals). Whole k y.0 start y.1) z w
      | inr h ↦
          let b = bind_some (grow E p h.0.1 h.0.0 h.0.2) (λ r. loop_of E m k r.0 r.1) x h.2 in
          loop_sound E sound m k b.0.0 start b.0.1 one (grow_sound E sound k p start ts l h.0.0 h.0.1 h.0.2 (link_sound k ts h.0 h.1) b.0 b.1) x b.2
    ]

less_left : (k : ℕ) (p : Expr) (start rest : Terminals) → k ≤ 12 → Left 12 p start rest → Left k p start rest
less_left k p start rest h l = record { reads = l.reads; proper = l.proper; level = omega (arith, l.level); stops = l.stops }

expr_of_sound : (E : Reader) → Sound E → (k : ℕ) (ts : Terminals) (x : Expr × Terminals) → 1 ≤ k → k ≤ 12 → expr_of E k ts ≡ Some x → Whole k x.0 ts x.1
expr_of_sound E sound k ts x one most e =
    let b = bind_some (head_of E ts) (λ h. loop_of E (suc (length h.1)) k h.0 h.1) x e in
    loop_sound E sound (suc (length b.0.1)) k b.0.0 ts b.0.1 one (less_left k b.0.0 ts b.0.1 most (head_sound E sound ts b.0 b.1)) x b.2

-- What is read is spelled so.
pub expr_sound : (n : ℕ) → Sound (expr_at n)
unfolding expr_at
expr_sound zero k ts x one most e = absurd cc
expr_sound (suc n) k ts x one most e = expr_of_sound (expr_at n) (expr_sound n) k ts x one most e
