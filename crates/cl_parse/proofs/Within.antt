-- Within the spelling of an item no terminal ends it but the last.
use Rattle.std.proofs.Common.{◌≡◌, ℕ, zero, suc, List, [], ◌∷◌, ◌++◌, map, refl, subst, sym, ap, ◌∙◌, Bool, true, false, not, ◌&&◌, ◌||◌, Option, Some, None, append_assoc}
use Rattle.std.specs.List.{flat_map}
use Rattle.cl_tree.specs.declared.kinds.UnOp.{UnOp}
use Rattle.cl_tree.specs.declared.kinds.UnOp.TheVariants as unary
use Rattle.cl_tree.specs.declared.kinds.BinOp.{BinOp}
use Rattle.cl_tree.specs.declared.kinds.BinOp.TheVariants as binary
use Rattle.cl_tree.specs.declared.token.Mark.{Mark}
use Rattle.cl_tree.specs.declared.token.Mark.TheVariants as mark
use Rattle.cl_tree.specs.declared.grammar.Keyword.TheVariants as key
use Rattle.cl_tree.specs.declared.grammar.Base.{Base}
use Rattle.cl_tree.specs.declared.grammar.Base.TheVariants as base
use Rattle.cl_tree.specs.declared.grammar.Sign.{Sign}
use Rattle.cl_tree.specs.declared.grammar.Sign.TheVariants as sign
use Rattle.cl_tree.specs.declared.tree.CType.{CType}
use Rattle.cl_tree.specs.declared.tree.Expr.{Expr}
use Rattle.cl_tree.specs.declared.tree.Node.{Node, Node-F, out-Node}
use Rattle.cl_tree.specs.declared.tree.Node.TheOpen as node
use Rattle.cl_tree.specs.Spelling.{Want, is, size, Wanted, Spelling, put_on, put, put_mark, mark_on, mark_at, put_size, first_on, commas, is_empty, base_on, stars_on, dims_then, type_name, type_shape, held_by, star_lines, floating_lines, other_lines, Shape, node_step, shape, unary_mark, binary_mark}
use Rattle.cl_tree.specs.Items.{Bracket, round, square, brace, body, Effect, opens, closes, semicolon, pragma_line, none, effect, mark_effect, open_after, ends_item, is_close, is_partner, is_body_bracket}
use Rattle.cl_parse_expr.proofs.Shapes.{Parts, expr_induction, shape_is, shaped, Each}

-- ---- one terminal

abbrev pub want_effect : Bool → Want → Effect
want_effect a (is s) = effect a s
want_effect a (size n) = none

abbrev pub want_closes : Want → Bool
want_closes (is s) = is_close s
want_closes (size n) = false

abbrev pub is_cle : Want → Bool
is_cle (is (sign.Cle p)) = true
is_cle _ = false

-- Where these brackets are open, the last terminal ends the item, and no other does.
abbrev pub Ends : List Bracket → Bool → Spelling → Type 0
Ends bs a [] = ⊥
Ends bs a (w ∷ []) = (ends_item bs (want_effect a w.what) ≡ true) × (is_cle w.what ≡ false) × (want_closes w.what ≡ false)
Ends bs a (w ∷ v ∷ ws) = (ends_item bs (want_effect a w.what) ≡ false) × Ends (open_after bs (want_effect a w.what)) (want_closes w.what) (v ∷ ws)

pub step : (w : Wanted) (ms : Spelling) (bs : List Bracket) (a : Bool) → ends_item bs (want_effect a w.what) ≡ false → Ends (open_after bs (want_effect a w.what)) (want_closes w.what) ms → Ends bs a (w ∷ ms)
step w [] bs a e h = absurd h
step w (v ∷ ms) bs a e h = (e, h)

none_stays : (bs : List Bracket) → ends_item bs none ≡ false
none_stays [] = refl
none_stays (b ∷ bs) = refl

none_open : (bs : List Bracket) → open_after bs none ≡ bs
none_open [] = refl
none_open (b ∷ bs) = refl

opens_stays : (bs : List Bracket) (b : Bracket) → ends_item bs (opens b) ≡ false
opens_stays [] b = refl
opens_stays (c ∷ bs) b = refl

opens_open : (bs : List Bracket) (b : Bracket) → open_after bs (opens b) ≡ b ∷ bs
opens_open [] b = refl
opens_open (c ∷ bs) b = refl

closes_stays : (b d : Bracket) (bs : List Bracket) → is_partner b d ≡ true → (is_body_bracket b && is_empty bs) ≡ false → ends_item (b ∷ bs) (closes d) ≡ false
closes_stays b d bs p q = rw (p, q) refl

closes_open : (b d : Bracket) (bs : List Bracket) → is_partner b d ≡ true → open_after (b ∷ bs) (closes d) ≡ bs
closes_open b d bs p = rw p refl

pub plain_step : (lines : List ℕ) (s : Sign) (ms : Spelling) (bs : List Bracket) (a : Bool) → effect a s ≡ none → Ends bs (is_close s) ms → Ends bs a (put_on lines s ms)
plain_step lines s ms bs a e h =
    step (record { what = is s; lines = lines }) ms bs a (ap (λ (x : Effect). ends_item bs x) e ∙ none_stays bs)
    (subst (λ (y : List Bracket). Ends y (is_close s) ms) (sym (ap (λ (x : Effect). open_after bs x) e ∙ none_open bs)) h)

size_step : (n : ℕ) (ms : Spelling) (bs : List Bracket) (a : Bool) → Ends bs false ms → Ends bs a (put_size n ms)
size_step n ms bs a h = step (record { what = size n; lines = [] }) ms bs a (none_stays bs) (subst (λ (y : List Bracket). Ends y false ms) (sym (none_open bs)) h)

pub open_step : (lines : List ℕ) (m : Mark) (b : Bracket) (ms : Spelling) (bs : List Bracket) (a : Bool) → mark_effect a m ≡ opens b → Ends (b ∷ bs) (is_close (sign.Mark m)) ms → Ends bs a (mark_on lines m ms)
open_step lines m b ms bs a e h =
    step (record { what = is (sign.Mark m); lines = lines }) ms bs a (ap (λ (x : Effect). ends_item bs x) e ∙ opens_stays bs b)
    (subst (λ (y : List Bracket). Ends y (is_close (sign.Mark m)) ms) (sym (ap (λ (x : Effect). open_after bs x) e ∙ opens_open bs b)) h)

pub close_step : (m : Mark) (b d : Bracket) (ms : Spelling) (bs : List Bracket) (a : Bool) → mark_effect a m ≡ closes d → is_partner b d ≡ true → (is_body_bracket b && is_empty bs) ≡ false → Ends bs (is_close (sign.Mark m)) ms → Ends (b ∷ bs) a (put_mark m ms)
close_step m b d ms bs a e p q h =
    step (record { what = is (sign.Mark m); lines = [] }) ms (b ∷ bs) a (ap (λ (x : Effect). ends_item (b ∷ bs) x) e ∙ closes_stays b d bs p q)
    (subst (λ (y : List Bracket). Ends y (is_close (sign.Mark m)) ms) (sym (ap (λ (x : Effect). open_after (b ∷ bs) x) e ∙ closes_open b d bs p)) h)

pub semicolon_step : (lines : List ℕ) (ms : Spelling) (b : Bracket) (bs : List Bracket) (a : Bool) → Ends (b ∷ bs) false ms → Ends (b ∷ bs) a (mark_on lines mark.Semicolon ms)
semicolon_step lines ms b bs a h = step (record { what = is (sign.Mark mark.Semicolon); lines = lines }) ms (b ∷ bs) a refl h

-- ---- terminals that leave the brackets as they are

-- whatever is open, and whatever stands before
abbrev pub Through : Spelling → Type 0
Through ms = (bs : List Bracket) (a : Bool) (rest : Spelling) → ((c : Bool) → Ends bs c rest) → Ends bs a (ms ++ rest)

pub nothing_through : Through []
nothing_through bs a rest k = k a

pub through_append : (ms ns : Spelling) → Through ms → Through ns → Through (ms ++ ns)
through_append ms ns h g bs a rest k = subst (λ (y : Spelling). Ends bs a y) (sym (append_assoc ms ns rest)) (h bs a (ns ++ rest) (λ c. g bs c rest k))

pub plain_through : (lines : List ℕ) (s : Sign) (ms : Spelling) → ((a : Bool) → effect a s ≡ none) → Through ms → Through (put_on lines s ms)
plain_through lines s ms e h bs a rest k = plain_step lines s (ms ++ rest) bs a (e a) (h bs (is_close s) rest k)

relined : (w : Wanted) (lines : List ℕ) (ms : Spelling) (bs : List Bracket) (a : Bool) → Ends bs a (w ∷ ms) → Ends bs a (record { what = w.what; lines = lines } ∷ ms)
relined w lines [] bs a h = h
relined w lines (v ∷ ms) bs a h = h

pub first_through : (lines : List ℕ) (ms : Spelling) → Through ms → Through (first_on lines ms)
first_through lines [] h = h
first_through lines (m ∷ ms) h = λ bs a rest k. relined m (lines ++ m.lines) (ms ++ rest) bs a (h bs a rest k)

-- in brackets
pub in_brackets : (lines : List ℕ) (m n : Mark) (b d : Bracket) (ms ns rest : Spelling) (bs : List Bracket) (a : Bool) → mark_effect a m ≡ opens b → ((c : Bool) → mark_effect c n ≡ closes d) → is_partner b d ≡ true → (is_body_bracket b && is_empty bs) ≡ false
    → ((after : Spelling) → ((c : Bool) → Ends (b ∷ bs) c after) → Ends (b ∷ bs) (is_close (sign.Mark m)) (ms ++ after)) → Ends bs (is_close (sign.Mark n)) (ns ++ rest) → Ends bs a (mark_on lines m (ms ++ put_mark n ns) ++ rest)
in_brackets lines m n b d ms ns rest bs a o e p q h g =
    open_step lines m b ((ms ++ put_mark n ns) ++ rest) bs a o
    (subst (λ (y : Spelling). Ends (b ∷ bs) (is_close (sign.Mark m)) y) (sym (append_assoc ms (put_mark n ns) rest)) (h (put_mark n ns ++ rest) (λ c. close_step n b d (ns ++ rest) bs c (e c) p q g)))

pub paren_goes : (lines : List ℕ) (ms ns rest : Spelling) (bs : List Bracket) (a : Bool) → Through ms → Ends bs true (ns ++ rest) → Ends bs a (mark_on lines mark.OpenParen (ms ++ put_mark mark.CloseParen ns) ++ rest)
paren_goes lines ms ns rest bs a h g = in_brackets lines mark.OpenParen mark.CloseParen round round ms ns rest bs a refl (λ c. refl) refl refl (λ after k. h (round ∷ bs) false after k) g

-- ---- types

pub base_goes : (lines : List ℕ) (b : Base) (ms rest : Spelling) (bs : List Bracket) (a : Bool) → ((c : Bool) → Ends bs c (ms ++ rest)) → Ends bs a (base_on lines b ms ++ rest)
base_goes lines base.Void ms rest bs a k = plain_step lines (sign.Key key.Void) (ms ++ rest) bs a refl (k false)
base_goes lines (base.Kind kind) ms rest bs a k = plain_step lines (sign.Kind kind) (ms ++ rest) bs a refl (k false)
base_goes lines base.Real ms rest bs a k = plain_step lines sign.Real (ms ++ rest) bs a refl (k false)
base_goes lines (base.Tag tag) ms rest bs a k = plain_step lines (sign.Key key.Struct) (put (sign.Name tag) (ms ++ rest)) bs a refl (plain_step [] (sign.Name tag) (ms ++ rest) bs false refl (k false))

pub stars_goes : (lines : List ℕ) (n : ℕ) (ms rest : Spelling) (bs : List Bracket) (a : Bool) → ((c : Bool) → Ends bs c (ms ++ rest)) → Ends bs a (stars_on lines n ms ++ rest)
stars_goes lines zero ms rest bs a k = k a
stars_goes lines (suc n) ms rest bs a k = plain_step lines (sign.Mark mark.Star) (stars_on [] n ms ++ rest) bs a refl (stars_goes [] n ms rest bs false k)

pub dims_goes : (ns : List ℕ) (ms rest : Spelling) (bs : List Bracket) (a : Bool) → ((c : Bool) → Ends bs c (ms ++ rest)) → Ends bs a (dims_then ns ms ++ rest)
dims_goes [] ms rest bs a k = k a
dims_goes (n ∷ ns) ms rest bs a k =
    open_step [] mark.OpenBracket square (put_size n (put_mark mark.CloseBracket (dims_then ns ms ++ rest))) bs a refl
    (size_step n (put_mark mark.CloseBracket (dims_then ns ms ++ rest)) (square ∷ bs) false (close_step mark.CloseBracket square square (dims_then ns ms ++ rest) bs false refl refl refl (dims_goes ns ms rest bs false k)))

pub type_goes : (lines : List ℕ) (t : CType) (second : ℕ) (ms rest : Spelling) (bs : List Bracket) (a : Bool) → ((c : Bool) → Ends bs c (ms ++ rest)) → Ends bs a (type_name lines t second ms ++ rest)
type_goes lines t second ms rest bs a k =
    base_goes (lines ++ floating_lines (held_by t) second) (type_shape t).base (stars_on (star_lines (held_by t) second) (type_shape t).stars ms) rest bs a
    (λ c. stars_goes (star_lines (held_by t) second) (type_shape t).stars ms rest bs c k)

-- ---- lists

abbrev pub Throughs : List Spelling → Type 0
Throughs [] = Unit {0}
Throughs (x ∷ xs) = Through x × Throughs xs

others_through : (xs : List Spelling) → Throughs xs → Through (flat_map (put_mark mark.Comma) xs)
others_through [] h = nothing_through
others_through (x ∷ xs) h = plain_through [] (sign.Mark mark.Comma) (x ++ flat_map (put_mark mark.Comma) xs) (λ a. refl) (through_append x (flat_map (put_mark mark.Comma) xs) h.0 (others_through xs h.1))

pub commas_through : (xs : List Spelling) → Throughs xs → Through (commas xs)
commas_through [] h = nothing_through
commas_through (x ∷ xs) h = through_append x (flat_map (put_mark mark.Comma) xs) h.0 (others_through xs h.1)

-- ---- expressions

unary_plain : (op : UnOp) (a : Bool) → mark_effect a (unary_mark op) ≡ none
unary_plain unary.Minus a = refl
unary_plain unary.Plus a = refl
unary_plain unary.Flip a = refl
unary_plain unary.Not a = refl
unary_plain unary.Star a = refl
unary_plain unary.Amp a = refl

binary_plain : (op : BinOp) (a : Bool) → mark_effect a (binary_mark op) ≡ none
binary_plain binary.Or a = refl
binary_plain binary.And a = refl
binary_plain binary.BitOr a = refl
binary_plain binary.Xor a = refl
binary_plain binary.BitAnd a = refl
binary_plain binary.Equal a = refl
binary_plain binary.Unequal a = refl
binary_plain binary.Less a = refl
binary_plain binary.Greater a = refl
binary_plain binary.AtMost a = refl
binary_plain binary.AtLeast a = refl
binary_plain binary.Left a = refl
binary_plain binary.Right a = refl
binary_plain binary.Add a = refl
binary_plain binary.Sub a = refl
binary_plain binary.Mul a = refl
binary_plain binary.Div a = refl
binary_plain binary.Rem a = refl

abbrev ExprThrough : Expr → Type 0
ExprThrough e = Through (shape e).spelling

all_arguments : (es : List Expr) → Each ExprThrough es → Throughs (map (λ s. s.spelling) (map shape es))
all_arguments [] h = tt
all_arguments (e ∷ es) h = (h.0, all_arguments es h.1)

alone : (lines : List ℕ) (s : Sign) → ((a : Bool) → effect a s ≡ none) → Through (put_on lines s [])
alone lines s e = plain_through lines s [] e nothing_through

expr_step : (x : Node-F Node Expr) (l s : ℕ) → Parts ExprThrough x → Through (node_step (shaped x) l s).spelling
expr_step (node.Number v k) l s h = alone (l ∷ s ∷ []) (sign.Integer v k) (λ a. refl)
expr_step node.Real l s h = alone (l ∷ s ∷ []) sign.Floating (λ a. refl)
expr_step (node.Letter b) l s h = alone (l ∷ s ∷ []) (sign.Letter b) (λ a. refl)
expr_step (node.Text t) l s h = alone (l ∷ s ∷ []) (sign.Text t) (λ a. refl)
expr_step (node.Variable n) l s h = alone (l ∷ s ∷ []) (sign.Name n) (λ a. refl)
expr_step (node.Unary op e) l s h = plain_through (l ∷ s ∷ []) (sign.Mark (unary_mark op)) (shape e).spelling (unary_plain op) h
expr_step (node.Binary op a b) l s h =
    through_append (first_on (l ∷ []) (shape a).spelling) (mark_at s (binary_mark op) (shape b).spelling) (first_through (l ∷ []) (shape a).spelling h.0)
    (plain_through (s ∷ []) (sign.Mark (binary_mark op)) (shape b).spelling (binary_plain op) h.1)
expr_step (node.Choice c a b) l s h =
    through_append (first_on (l ∷ s ∷ []) (shape c).spelling) (put_mark mark.Question ((shape a).spelling ++ put_mark mark.Colon (shape b).spelling)) (first_through (l ∷ s ∷ []) (shape c).spelling h.0)
    (plain_through [] (sign.Mark mark.Question) ((shape a).spelling ++ put_mark mark.Colon (shape b).spelling) (λ x. refl)
    (through_append (shape a).spelling (put_mark mark.Colon (shape b).spelling) h.1 (plain_through [] (sign.Mark mark.Colon) (shape b).spelling (λ x. refl) h.2)))
expr_step (node.Cast t e) l s h = λ bs a rest k.
    open_step (l ∷ other_lines (held_by t) s) mark.OpenParen round (type_name [] t s (put_mark mark.CloseParen (shape e).spelling) ++ rest) bs a refl
    (type_goes [] t s (put_mark mark.CloseParen (shape e).spelling) rest (round ∷ bs) false (λ c. close_step mark.CloseParen round round ((shape e).spelling ++ rest) bs c refl refl refl (h bs true rest k)))
expr_step (node.Call n es) l s h =
    plain_through (l ∷ s ∷ []) (sign.Name n) (put_mark mark.OpenParen (commas (map (λ s. s.spelling) (map shape es)) ++ put_mark mark.CloseParen [])) (λ a. refl)
    (λ bs a rest k. paren_goes [] (commas (map (λ s. s.spelling) (map shape es))) [] rest bs a (commas_through (map (λ s. s.spelling) (map shape es)) (all_arguments es h)) (k true))
expr_step (node.Index a i) l s h =
    through_append (first_on (l ∷ []) (shape a).spelling) (mark_at s mark.OpenBracket ((shape i).spelling ++ put_mark mark.CloseBracket [])) (first_through (l ∷ []) (shape a).spelling h.0)
    (λ bs c rest k. in_brackets (s ∷ []) mark.OpenBracket mark.CloseBracket square square (shape i).spelling [] rest bs c refl (λ d. refl) refl refl (λ after g. h.1 (square ∷ bs) false after g) (k false))
expr_step (node.Member a n) l s h =
    through_append (first_on (l ∷ s ∷ []) (shape a).spelling) (put_mark mark.Dot (put (sign.Name n) [])) (first_through (l ∷ s ∷ []) (shape a).spelling h)
    (plain_through [] (sign.Mark mark.Dot) (put (sign.Name n) []) (λ x. refl) (alone [] (sign.Name n) (λ x. refl)))
expr_step (node.Arrow a n) l s h =
    through_append (first_on (l ∷ []) (shape a).spelling) (mark_at s mark.Arrow (put (sign.Name n) [])) (first_through (l ∷ []) (shape a).spelling h)
    (plain_through (s ∷ []) (sign.Mark mark.Arrow) (put (sign.Name n) []) (λ x. refl) (alone [] (sign.Name n) (λ x. refl)))
expr_step (node.Paren e) l s h = λ bs a rest k. paren_goes (l ∷ s ∷ []) (shape e).spelling [] rest bs a h (k true)

pub expr_through : (e : Expr) → Through (shape e).spelling
expr_through = expr_induction ExprThrough (λ e h. subst (λ (y : Shape). Through y.spelling) (sym (shape_is e)) (expr_step (out-Node e.node) e.line e.second h))
