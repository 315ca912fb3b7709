-- The first terminals, as private contracts see them.
use Rattle.std.specs.Prelude.{◌≡◌, ℕ, zero, suc, List, [], ◌∷◌, ◌++◌, length, Option, Some, None, Bool, true, false, nat_lt, Result, Ok, Err, if◌then◌else◌}
use denote.Enum.Bare.{sameb}
use Rattle.cl_tree.specs.contracts.token.Mark.{the_type as mark_type}
use Rattle.cl_tree.specs.contracts.grammar.Keyword.{the_type as key_type}
use Rattle.cl_tree.specs.declared.kinds.UnOp.{UnOp}
use Rattle.cl_tree.specs.declared.kinds.UnOp.TheVariants as unary
use Rattle.cl_tree.specs.declared.kinds.BinOp.{BinOp}
use Rattle.cl_tree.specs.declared.kinds.BinOp.TheVariants as binary
use Rattle.cl_tree.specs.declared.token.Mark.{Mark}
use Rattle.cl_tree.specs.declared.token.Mark.TheVariants as mark
use Rattle.cl_tree.specs.declared.grammar.Keyword.{Keyword}
use Rattle.cl_tree.specs.declared.grammar.Keyword.TheVariants as key
use Rattle.cl_tree.specs.declared.grammar.Sign.{Sign}
use Rattle.cl_tree.specs.declared.grammar.Sign.TheVariants as sign
use Rattle.cl_tree.specs.declared.grammar.Terminal.{Terminal}
use Rattle.cl_tree.specs.Words.{Word}
use Rattle.cl_tree.specs.Spelling.{binds}
use Rattle.cl_parse_expr.specs.declared.stop.Stop.{Stop}
use Rattle.cl_parse_expr.specs.declared.stop.Stop.TheVariants.{Memory, Unread}
use Rattle.cl_parse_expr.specs.declared.cursor.Fixed.{Fixed}
use Rattle.cl_parse_expr.specs.declared.cursor.Fixed.TheVariants as fixed
use Rattle.cl_parse_expr.specs.declared.cursor.Link.{Link}
use Rattle.cl_parse_expr.specs.declared.cursor.Link.TheVariants as link
use Rattle.cl_parse_expr.specs.declared.cursor.Start.{Start}
use Rattle.cl_parse_expr.specs.declared.cursor.Start.TheVariants as start

infixl 10 ◌>>=◌
abbrev pub ◌>>=◌ : {A B : Type 0} → Option A → (A → Option B) → Option B
(Some x) >>= f = f x
None >>= f = None

-- What a function returned, seen by view, is what reading gives, unless memory ran out.
abbrev pub Fails : {Y : Type 0} → Stop → Option Y → Type 0
Fails Memory read = Unit {0}
Fails Unread read = read ≡ None

abbrev pub Gives : {X Y : Type 0} → (X → Y) → Result X Stop → Option Y → Type 0
Gives view (Ok x) read = read ≡ Some (view x)
Gives view (Err e) read = Fails e read

abbrev pub Finds : {X Y : Type 0} → (X → Y) → Option X → Option Y → Type 0
Finds view None found = found ≡ None
Finds view (Some x) found = found ≡ Some (view x)

abbrev pub found : {A B : Type 0} → Option A → (A → B) → B → B
found None f b = b
found (Some x) f b = f x

abbrev pub Terminals : Type 0
Terminals = List Terminal

unfoldable pub same_mark : Mark → Mark → Bool
same_mark a b = sameb mark_type a b

unfoldable pub same_key : Keyword → Keyword → Bool
same_key a b = sameb key_type a b

abbrev pub fixed_sign : Fixed → Sign
fixed_sign (fixed.Mark m) = sign.Mark m
fixed_sign (fixed.Key k) = sign.Key k

abbrev pub is_fixed : Fixed → Sign → Bool
is_fixed (fixed.Mark m) (sign.Mark n) = same_mark n m
is_fixed (fixed.Key k) (sign.Key l) = same_key l k
is_fixed _ _ = false

unfoldable pub after : Fixed → Terminals → Option (ℕ × Terminals)
after f [] = None
after f (t ∷ ts) = if is_fixed f t.what then Some (t.line, ts) else None

abbrev pub line_of : Terminals → ℕ
line_of [] = 0
line_of (t ∷ ts) = t.line

abbrev pub name_step : ℕ → Sign → Terminals → Option (Word × ℕ × Terminals)
name_step line (sign.Name name) ts = Some (name, line, ts)
name_step line _ ts = None

unfoldable pub name_at : Terminals → Option (Word × ℕ × Terminals)
name_at [] = None
name_at (t ∷ ts) = name_step t.line t.what ts

abbrev pub start_of : Mark → Start
start_of mark.OpenParen = start.Group
start_of mark.Minus = start.Prefix unary.Minus
start_of mark.Plus = start.Prefix unary.Plus
start_of mark.Tilde = start.Prefix unary.Flip
start_of mark.Bang = start.Prefix unary.Not
start_of mark.Star = start.Prefix unary.Star
start_of mark.Amp = start.Prefix unary.Amp
start_of _ = start.Nothing

abbrev pub mark_link : Mark → Link
mark_link mark.Question = link.Choice
mark_link mark.BarBar = link.Binary binary.Or
mark_link mark.AmpAmp = link.Binary binary.And
mark_link mark.Bar = link.Binary binary.BitOr
mark_link mark.Caret = link.Binary binary.Xor
mark_link mark.Amp = link.Binary binary.BitAnd
mark_link mark.Equal = link.Binary binary.Equal
mark_link mark.Unequal = link.Binary binary.Unequal
mark_link mark.Less = link.Binary binary.Less
mark_link mark.Greater = link.Binary binary.Greater
mark_link mark.AtMost = link.Binary binary.AtMost
mark_link mark.AtLeast = link.Binary binary.AtLeast
mark_link mark.LeftShift = link.Binary binary.Left
mark_link mark.RightShift = link.Binary binary.Right
mark_link mark.Plus = link.Binary binary.Add
mark_link mark.Minus = link.Binary binary.Sub
mark_link mark.Star = link.Binary binary.Mul
mark_link mark.Slash = link.Binary binary.Div
mark_link mark.Percent = link.Binary binary.Rem
mark_link mark.OpenBracket = link.Index
mark_link mark.Dot = link.Member
mark_link mark.Arrow = link.Arrow
mark_link _ = link.Nothing

abbrev pub link_of : Sign → Link
link_of (sign.Mark m) = mark_link m
link_of _ = link.Nothing

abbrev pub pull : Link → ℕ
pull link.Nothing = 0
pull link.Choice = 1
pull (link.Binary op) = binds op
pull link.Index = 14
pull link.Member = 14
pull link.Arrow = 14

unfoldable pub link_at : ℕ → Terminals → Option (Link × ℕ × Terminals)
link_at k [] = None
link_at k (t ∷ ts) = if nat_lt (pull (link_of t.what)) k then None else Some (link_of t.what, t.line, ts)
