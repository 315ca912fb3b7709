-- The reader of types on lists.
use Rattle.std.specs.Prelude.{ℕ, zero, suc, List, [], ◌∷◌, Option, Some, None}
use Rattle.cl_tree.specs.declared.token.Mark.TheVariants as mark
use Rattle.cl_tree.specs.declared.grammar.Base.{Base}
use Rattle.cl_tree.specs.declared.grammar.Base.TheVariants as base
use Rattle.cl_tree.specs.declared.grammar.Keyword.{Keyword}
use Rattle.cl_tree.specs.declared.grammar.Keyword.TheVariants as key
use Rattle.cl_tree.specs.declared.grammar.Sign.{Sign}
use Rattle.cl_tree.specs.declared.grammar.Sign.TheVariants as sign
use Rattle.cl_tree.specs.declared.tree.CType.{CType}
use Rattle.cl_tree.specs.declared.tree.CType.TheVariants as ctype
use Rattle.cl_parse_expr.specs.declared.cursor.Fixed.TheVariants as fixed
use Rattle.cl_parse_expr.specs.Cursor.{◌>>=◌, Terminals, found, after, name_at}

-- a base with the line of its first terminal
abbrev pub key_base : ℕ → Keyword → Terminals → Option (Base × ℕ × Terminals)
key_base line key.Void ts = Some (base.Void, line, ts)
key_base line key.Struct ts = name_at ts >>= λ n. Some (base.Tag n.0, line, n.2)
key_base line _ ts = None

abbrev pub base_step : ℕ → Sign → Terminals → Option (Base × ℕ × Terminals)
base_step line (sign.Kind kind) ts = Some (base.Kind kind, line, ts)
base_step line sign.Real ts = Some (base.Real, line, ts)
base_step line (sign.Key k) ts = key_base line k ts
base_step line _ ts = None

unfoldable pub base_at : Terminals → Option (Base × ℕ × Terminals)
base_at [] = None
base_at (t ∷ ts) = base_step t.line t.what ts

abbrev pub type_of : Base → CType
type_of base.Void = ctype.Void
type_of (base.Kind kind) = ctype.Integer kind
type_of base.Real = ctype.Floating
type_of (base.Tag tag) = ctype.Struct tag

-- the stars behind a type
unfoldable pub pointers_at : ℕ → CType → Terminals → CType × Terminals
pointers_at zero t ts = (t, ts)
pointers_at (suc m) t ts = found (after (fixed.Mark mark.Star) ts) (λ x. pointers_at m (ctype.Pointer t) x.1) (t, ts)

abbrev pub base_second : Base → ℕ → ℕ → ℕ
base_second base.Real floating other = floating
base_second _ floating other = other

-- the second line of a node whose type goes on with these terminals
unfoldable pub second_at : Base → ℕ → ℕ → Terminals → ℕ
second_at b floating other ts = found (after (fixed.Mark mark.Star) ts) (λ x. x.0) (base_second b floating other)
