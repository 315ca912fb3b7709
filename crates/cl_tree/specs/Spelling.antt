-- How types and expressions are spelled as terminals, line by line, and which are well-formed.
use Rattle.std.specs.Prelude.{◌≡◌, ℕ, zero, suc, ◌^◌, List, [], ◌∷◌, ◌++◌, map, Bool, true, false, ◌&&◌, nat_le, nat_lt, bytes_eq}
use Rattle.std.specs.List.{flat_map}
use denote.Enum.Bare.{sameb}
use Rattle.cl_tree.specs.contracts.kinds.IntKind.{the_type}
use Rattle.cl_tree.specs.declared.kinds.UnOp.{UnOp}
use Rattle.cl_tree.specs.declared.kinds.UnOp.TheVariants as unary
use Rattle.cl_tree.specs.declared.kinds.BinOp.{BinOp}
use Rattle.cl_tree.specs.declared.kinds.BinOp.TheVariants as binary
use Rattle.cl_tree.specs.declared.token.Mark.{Mark}
use Rattle.cl_tree.specs.declared.token.Mark.TheVariants as mark
use Rattle.cl_tree.specs.declared.grammar.Keyword.{Keyword}
use Rattle.cl_tree.specs.declared.grammar.Keyword.TheVariants as key
use Rattle.cl_tree.specs.declared.grammar.Base.{Base}
use Rattle.cl_tree.specs.declared.grammar.Base.TheVariants as base
use Rattle.cl_tree.specs.declared.grammar.Sign.{Sign}
use Rattle.cl_tree.specs.declared.grammar.Sign.TheVariants as sign
use Rattle.cl_tree.specs.declared.grammar.Terminal.{Terminal}
use Rattle.cl_tree.specs.declared.tree.CType.{CType, CType-F, fold-CType}
use Rattle.cl_tree.specs.declared.tree.CType.TheOpen as ctype
use Rattle.cl_tree.specs.declared.tree.Expr.{Expr, fold-Expr}
use Rattle.cl_tree.specs.declared.tree.Node.{Node-F}
use Rattle.cl_tree.specs.declared.tree.Node.TheOpen as node
use Rattle.cl_tree.specs.Words.{comes, is_literal}

-- ---- spellings

-- What a tree wants of a terminal: what it is; of the size of an array only the value, since the tree keeps no kind.
pub data Want : Type 0 where
  is : Sign → Want
  size : ℕ → Want

-- and the lines that the tree keeps of it
pub record Wanted : Type 0 where
  pub what : Want
  pub lines : List ℕ

abbrev pub Spelling : Type 0
Spelling = List Wanted

abbrev pub put_on : List ℕ → Sign → Spelling → Spelling
put_on lines s rest = record { what = is s; lines = lines } ∷ rest

abbrev pub put : Sign → Spelling → Spelling
put s rest = put_on [] s rest

abbrev pub put_at : ℕ → Sign → Spelling → Spelling
put_at line s rest = put_on (line ∷ []) s rest

abbrev pub mark_on : List ℕ → Mark → Spelling → Spelling
mark_on lines m rest = put_on lines (sign.Mark m) rest

abbrev pub mark_at : ℕ → Mark → Spelling → Spelling
mark_at line m rest = put_at line (sign.Mark m) rest

abbrev pub put_mark : Mark → Spelling → Spelling
put_mark m rest = put (sign.Mark m) rest

abbrev pub key_on : List ℕ → Keyword → Spelling → Spelling
key_on lines k rest = put_on lines (sign.Key k) rest

abbrev pub put_key : Keyword → Spelling → Spelling
put_key k rest = put (sign.Key k) rest

abbrev pub put_size : ℕ → Spelling → Spelling
put_size n rest = record { what = size n; lines = [] } ∷ rest

-- The first terminal stands on these lines too.
abbrev pub first_on : List ℕ → Spelling → Spelling
first_on lines [] = []
first_on lines (w ∷ ws) = record { what = w.what; lines = lines ++ w.lines } ∷ ws

-- with commas between
abbrev pub commas : List Spelling → Spelling
commas [] = []
commas (x ∷ xs) = x ++ flat_map (put_mark mark.Comma) xs

-- A terminal is what is wanted. The size of an array is any literal of its value.
abbrev pub Meets : Want → Sign → Type 0
Meets (is s) x = x ≡ s
Meets (size n) (sign.Integer value kind) = (value ≡ n) × (is_literal value kind ≡ true)
Meets (size n) _ = ⊥

-- a line is each of these
abbrev pub Fits : List ℕ → ℕ → Type 0
Fits [] line = Unit {0}
Fits (l ∷ ls) line = (line ≡ l) × Fits ls line

-- The terminals begin with what is wanted, and then the rest stands.
abbrev pub Reads : Spelling → List Terminal → List Terminal → Type 0
Reads [] terminals rest = terminals ≡ rest
Reads (w ∷ ws) [] rest = ⊥
Reads (w ∷ ws) (p ∷ terminals) rest = Meets w.what p.what × Fits w.lines p.line × Reads ws terminals rest

-- a source can bring it
abbrev pub want_comes : Want → Bool
want_comes (is s) = comes s
want_comes (size n) = nat_lt n (2 ^ 64)

unfoldable pub all_come : Spelling → Bool
all_come [] = true
all_come (w ∷ ws) = want_comes w.what && all_come ws

-- ---- types

pub record TypeShape : Type 0 where
  pub base : Base
  pub stars : ℕ
  pub dims : List ℕ
  pub proper : Bool

abbrev pub is_empty : {A : Type 0} → List A → Bool
is_empty [] = true
is_empty (x ∷ xs) = false

abbrev pub plain_type : Base → TypeShape
plain_type b = record { base = b; stars = 0; dims = []; proper = true }

-- The first size that is written is the outermost array's. No form of the grammar is a pointer to an array.
abbrev pub type_step : CType-F TypeShape → TypeShape
type_step ctype.Void = plain_type base.Void
type_step (ctype.Integer kind) = plain_type (base.Kind kind)
type_step (ctype.Struct tag) = plain_type (base.Tag tag)
type_step ctype.Floating = plain_type base.Real
type_step (ctype.Array t n) = record { base = t.base; stars = t.stars; dims = n ∷ t.dims; proper = t.proper }
type_step (ctype.Pointer t) = record { base = t.base; stars = suc t.stars; dims = []; proper = is_empty t.dims && t.proper }

unfoldable pub type_shape : CType → TypeShape
type_shape = fold-CType TypeShape type_step

abbrev pub same_base : Base → Base → Bool
same_base base.Void base.Void = true
same_base (base.Kind a) (base.Kind b) = sameb the_type a b
same_base base.Real base.Real = true
same_base (base.Tag a) (base.Tag b) = bytes_eq a b
same_base _ _ = false

abbrev pub is_void : Base → Bool
is_void base.Void = true
is_void _ = false

abbrev pub base_on : List ℕ → Base → Spelling → Spelling
base_on lines base.Void rest = key_on lines key.Void rest
base_on lines (base.Kind kind) rest = put_on lines (sign.Kind kind) rest
base_on lines base.Real rest = put_on lines sign.Real rest
base_on lines (base.Tag tag) rest = key_on lines key.Struct (put (sign.Name tag) rest)

-- The lines of the stars: the first one's are given.
abbrev pub stars_on : List ℕ → ℕ → Spelling → Spelling
stars_on lines zero rest = rest
stars_on lines (suc n) rest = mark_on lines mark.Star (stars_on [] n rest)

abbrev pub dims_then : List ℕ → Spelling → Spelling
dims_then [] rest = rest
dims_then (n ∷ ns) rest = put_mark mark.OpenBracket (put_size n (put_mark mark.CloseBracket (dims_then ns rest)))

-- Whose line the second one of a type's node is: the first `*` of the type, else its floating type, else another token.
pub data Holder : Type 0 where
  star : Holder
  floating : Holder
  other : Holder

abbrev pub holder : ℕ → Base → Holder
holder (suc n) b = star
holder zero base.Real = floating
holder zero _ = other

abbrev pub star_lines : Holder → ℕ → List ℕ
star_lines star line = line ∷ []
star_lines _ line = []

abbrev pub floating_lines : Holder → ℕ → List ℕ
floating_lines floating line = line ∷ []
floating_lines _ line = []

abbrev pub other_lines : Holder → ℕ → List ℕ
other_lines other line = line ∷ []
other_lines _ line = []

abbrev pub held_by : CType → Holder
held_by t = holder (type_shape t).stars (type_shape t).base

-- a type with its stars, whose second line is given; `lines` are further ones of its first terminal
abbrev pub type_name : List ℕ → CType → ℕ → Spelling → Spelling
type_name lines t second rest = base_on (lines ++ floating_lines (held_by t) second) (type_shape t).base (stars_on (star_lines (held_by t) second) (type_shape t).stars rest)

-- the type of a cast, or of a function's result
abbrev pub is_type_name : CType → Bool
is_type_name t = is_empty (type_shape t).dims && (type_shape t).proper

-- ---- expressions

abbrev pub unary_mark : UnOp → Mark
unary_mark unary.Minus = mark.Minus
unary_mark unary.Plus = mark.Plus
unary_mark unary.Flip = mark.Tilde
unary_mark unary.Not = mark.Bang
unary_mark unary.Star = mark.Star
unary_mark unary.Amp = mark.Amp

abbrev pub binary_mark : BinOp → Mark
binary_mark binary.Or = mark.BarBar
binary_mark binary.And = mark.AmpAmp
binary_mark binary.BitOr = mark.Bar
binary_mark binary.Xor = mark.Caret
binary_mark binary.BitAnd = mark.Amp
binary_mark binary.Equal = mark.Equal
binary_mark binary.Unequal = mark.Unequal
binary_mark binary.Less = mark.Less
binary_mark binary.Greater = mark.Greater
binary_mark binary.AtMost = mark.AtMost
binary_mark binary.AtLeast = mark.AtLeast
binary_mark binary.Left = mark.LeftShift
binary_mark binary.Right = mark.RightShift
binary_mark binary.Add = mark.Plus
binary_mark binary.Sub = mark.Minus
binary_mark binary.Mul = mark.Star
binary_mark binary.Div = mark.Slash
binary_mark binary.Rem = mark.Percent

-- How tightly an expression binds: 1 a choice, 2 to 11 the binary operators, 12 a cast, 13 a prefix operator, 14 all else.
abbrev pub binds : BinOp → ℕ
binds binary.Or = 2
binds binary.And = 3
binds binary.BitOr = 4
binds binary.Xor = 5
binds binary.BitAnd = 6
binds binary.Equal = 7
binds binary.Unequal = 7
binds binary.Less = 8
binds binary.Greater = 8
binds binary.AtMost = 8
binds binary.AtLeast = 8
binds binary.Left = 9
binds binary.Right = 9
binds binary.Add = 10
binds binary.Sub = 10
binds binary.Mul = 11
binds binary.Div = 11
binds binary.Rem = 11

-- What is to be known of an expression. Its spelling says on which lines its terminals stand; whether it is well-formed rests on no line.
pub record Shape : Type 0 where
  pub level : ℕ
  pub spelling : Spelling
  pub proper : Bool

abbrev pub all_proper : List Shape → Bool
all_proper [] = true
all_proper (s ∷ ss) = s.proper && all_proper ss

-- one terminal, which is the whole expression
abbrev pub leaf : Sign → ℕ → ℕ → Shape
leaf s line second = record { level = 14; spelling = put_on (line ∷ second ∷ []) s []; proper = true }

-- One level of an expression, of which the line and the second line are given. The first terminal stands on the line; on the second line
-- stands the terminal that it is kept for, and else the first terminal too.
abbrev pub node_step : Node-F (ℕ → ℕ → Shape) Shape → ℕ → ℕ → Shape
node_step (node.Number value kind) line second = leaf (sign.Integer value kind) line second
node_step node.Real line second = leaf sign.Floating line second
node_step (node.Letter byte) line second = leaf (sign.Letter byte) line second
node_step (node.Text bytes) line second = leaf (sign.Text bytes) line second
node_step (node.Variable name) line second = leaf (sign.Name name) line second
node_step (node.Unary op e) line second = record {
  level = 13;
  spelling = mark_on (line ∷ second ∷ []) (unary_mark op) e.spelling;
  proper = nat_le 12 e.level && e.proper;
}
-- left associative
node_step (node.Binary op a b) line second = record {
  level = binds op;
  spelling = first_on (line ∷ []) a.spelling ++ mark_at second (binary_mark op) b.spelling;
  proper = (nat_le (binds op) a.level && nat_le (suc (binds op)) b.level) && (a.proper && b.proper);
}
node_step (node.Choice c a b) line second = record {
  level = 1;
  spelling = first_on (line ∷ second ∷ []) c.spelling ++ put_mark mark.Question (a.spelling ++ put_mark mark.Colon b.spelling);
  proper = nat_le 2 c.level && (c.proper && (a.proper && b.proper));
}
node_step (node.Cast t e) line second = record {
  level = 12;
  spelling = mark_on (line ∷ other_lines (held_by t) second) mark.OpenParen (type_name [] t second (put_mark mark.CloseParen e.spelling));
  proper = is_type_name t && (nat_le 12 e.level && e.proper);
}
node_step (node.Call name arguments) line second = record {
  level = 14;
  spelling = put_on (line ∷ second ∷ []) (sign.Name name) (put_mark mark.OpenParen (commas (map (λ s. s.spelling) arguments) ++ put_mark mark.CloseParen []));
  proper = all_proper arguments;
}
node_step (node.Index a i) line second = record {
  level = 14;
  spelling = first_on (line ∷ []) a.spelling ++ mark_at second mark.OpenBracket (i.spelling ++ put_mark mark.CloseBracket []);
  proper = nat_le 14 a.level && (a.proper && i.proper);
}
node_step (node.Member a name) line second = record {
  level = 14;
  spelling = first_on (line ∷ second ∷ []) a.spelling ++ put_mark mark.Dot (put (sign.Name name) []);
  proper = nat_le 14 a.level && a.proper;
}
node_step (node.Arrow a name) line second = record {
  level = 14;
  spelling = first_on (line ∷ []) a.spelling ++ mark_at second mark.Arrow (put (sign.Name name) []);
  proper = nat_le 14 a.level && a.proper;
}
node_step (node.Paren e) line second = record {
  level = 14;
  spelling = mark_on (line ∷ second ∷ []) mark.OpenParen (e.spelling ++ put_mark mark.CloseParen []);
  proper = e.proper;
}

unfoldable pub shape : Expr → Shape
shape = fold-Expr (ℕ → ℕ → Shape) Shape node_step (λ e. e.node e.line e.second)
