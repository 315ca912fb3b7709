-- The parts of spellings, each without what follows it.
use Rattle.std.specs.Prelude.{ℕ, List, [], ◌∷◌, ◌++◌, Bool, true, false, Option, Some, None, option_map}
use Rattle.std.specs.List.{flat_map}
use Rattle.cl_tree.specs.declared.grammar.Keyword.TheVariants as key
use Rattle.cl_tree.specs.declared.tree.Declarator.{Declarator}
use Rattle.cl_tree.specs.declared.tree.Init.{Init}
use Rattle.cl_tree.specs.declared.tree.Expr.{Expr}
use Rattle.cl_tree.specs.declared.tree.Stmt.{Stmt}
use Rattle.cl_tree.specs.Statements.{initialiser, common_base, stmt_shape, head_first, head_test, head_next}
use Rattle.cl_tree.specs.Words.{Word}
use Rattle.cl_tree.specs.declared.grammar.Sign.TheVariants as sign
use Rattle.cl_tree.specs.Items.{parameters, body_then}
use Rattle.cl_tree.specs.declared.token.Mark.TheVariants as mark
use Rattle.cl_tree.specs.declared.grammar.Base.{Base}
use Rattle.cl_tree.specs.declared.tree.CType.{CType}
use Rattle.cl_tree.specs.Spelling.{Spelling, base_on, stars_on, dims_then, type_name, star_lines, floating_lines, other_lines, held_by, mark_on, put_on, put_mark, put_key, key_on}

unfoldable pub base_part : List ℕ → Base → Spelling
base_part lines b = base_on lines b []

unfoldable pub stars_part : List ℕ → ℕ → Spelling
stars_part lines n = stars_on lines n []

unfoldable pub dims_part : List ℕ → Spelling
dims_part ns = dims_then ns []

unfoldable pub type_part : List ℕ → CType → ℕ → Spelling
type_part lines t second = type_name lines t second []

-- the type of a cast, with its parentheses; the lines are those of the first
unfoldable pub cast_part : List ℕ → CType → ℕ → Spelling
cast_part lines t second = mark_on (lines ++ other_lines (held_by t) second) mark.OpenParen (type_name [] t second (put_mark mark.CloseParen []))

-- the second line of a type's node, where a star has it, the floating type or another terminal
unfoldable pub star_line : CType → ℕ → List ℕ
star_line t second = star_lines (held_by t) second

unfoldable pub floating_line : CType → ℕ → List ℕ
floating_line t second = floating_lines (held_by t) second

unfoldable pub other_line : CType → ℕ → List ℕ
other_line t second = other_lines (held_by t) second

-- ---- declarations

unfoldable pub init_part : Option Init → Spelling
init_part i = initialiser i

-- the lines of the floating base, and those of the first terminal
abbrev pub floating_all : List Declarator → List ℕ
floating_all = flat_map (λ d. floating_line d.ctype d.second)

abbrev pub other_all : List Declarator → List ℕ
other_all = flat_map (λ d. other_line d.ctype d.second)

-- what stands before the names
unfoldable pub specifiers : List ℕ → Bool → List Declarator → Spelling
specifiers lines true names = key_on (lines ++ other_all names) key.Static (base_part (floating_all names) (common_base names))
specifiers lines false names = base_part ((lines ++ other_all names) ++ floating_all names) (common_base names)

-- ---- statements

unfoldable pub first_part : Option Stmt → Spelling
first_part s = head_first (option_map stmt_shape s)

unfoldable pub test_part : Option Expr → Spelling
test_part e = head_test e

unfoldable pub next_part : Option Stmt → Spelling
next_part s = head_next (option_map stmt_shape s)

unfoldable pub else_part : Option Stmt → Spelling
else_part None = []
else_part (Some s) = put_key key.Else (stmt_shape s).spelling

-- ---- items

-- what stands before the name of a function
unfoldable pub head_part : Bool → List ℕ → CType → ℕ → Spelling
head_part true lines result second = key_on lines key.Static (type_part [] result second)
head_part false lines result second = type_part lines result second

unfoldable pub parameters_part : Bool → List Declarator → Spelling
parameters_part void_word params = parameters void_word params []

unfoldable pub body_part : Option (List Stmt) → Spelling
body_part body = body_then body

-- the name of a function, and its parameters in their parentheses
unfoldable pub named_part : CType → Word → Bool → List Declarator → ℕ → Spelling
named_part result name void_word params second =
    put_on (other_line result second) (sign.Name name) (put_mark mark.OpenParen (parameters_part void_word params ++ put_mark mark.CloseParen []))
