-- How declarations and statements are spelled, and which are well-formed.
use Rattle.std.specs.Prelude.{ℕ, List, [], ◌∷◌, ◌++◌, map, Option, Some, None, Bool, true, false, not, ◌&&◌, nat_le}
use Rattle.std.specs.List.{flat_map}
use Rattle.cl_tree.specs.declared.kinds.BinOp.{BinOp}
use Rattle.cl_tree.specs.declared.kinds.BinOp.TheVariants as binary
use Rattle.cl_tree.specs.declared.token.Mark.{Mark}
use Rattle.cl_tree.specs.declared.token.Mark.TheVariants as mark
use Rattle.cl_tree.specs.declared.grammar.Keyword.TheVariants as key
use Rattle.cl_tree.specs.declared.grammar.Base.{Base}
use Rattle.cl_tree.specs.declared.grammar.Base.TheVariants as base
use Rattle.cl_tree.specs.declared.grammar.Sign.TheVariants as sign
use Rattle.cl_tree.specs.declared.tree.Expr.{Expr}
use Rattle.cl_tree.specs.declared.tree.Node.{Node, Node-F, out-Node}
use Rattle.cl_tree.specs.declared.tree.Node.TheOpen as node
use Rattle.cl_tree.specs.declared.tree.Init.{Init, Init-F, fold-Init}
use Rattle.cl_tree.specs.declared.tree.Init.TheOpen as init
use Rattle.cl_tree.specs.declared.tree.Declarator.{Declarator}
use Rattle.cl_tree.specs.declared.tree.Declaration.{Declaration}
use Rattle.cl_tree.specs.declared.tree.Stmt.{Stmt, fold-Stmt}
use Rattle.cl_tree.specs.declared.tree.Act.{Act-F}
use Rattle.cl_tree.specs.declared.tree.Act.TheOpen as act
use Rattle.cl_tree.specs.Spelling.{Spelling, put_on, put_at, mark_on, mark_at, first_on, put_mark, key_on, put_key, commas, other_lines, floating_lines, star_lines, held_by, type_shape, same_base, is_void, is_empty, base_on, stars_on, dims_then, shape}

-- ---- declarations

pub record InitShape : Type 0 where
  pub spelling : Spelling
  pub proper : Bool

abbrev pub all_inits : List InitShape → Bool
all_inits [] = true
all_inits (s ∷ ss) = s.proper && all_inits ss

abbrev pub init_step : Init-F InitShape → InitShape
init_step (init.One e) = record { spelling = (shape e).spelling; proper = (shape e).proper }
init_step (init.Many parts) = record {
  spelling = put_mark mark.OpenBrace (commas (map (λ s. s.spelling) parts) ++ put_mark mark.CloseBrace []);
  proper = not (is_empty parts) && all_inits parts;
}

unfoldable pub init_shape : Init → InitShape
init_shape = fold-Init InitShape init_step

abbrev pub initialiser : Option Init → Spelling
initialiser None = []
initialiser (Some i) = put_mark mark.Assign (init_shape i).spelling

-- what stands behind the base
unfoldable pub declarator : Declarator → Spelling
declarator d = stars_on (star_lines (held_by d.ctype) d.second) (type_shape d.ctype).stars (put_at d.line (sign.Name d.name) (dims_then (type_shape d.ctype).dims (initialiser d.init)))

-- The second line of a name is that of its own first `*`, else that of a floating base, else that of the first token of the item or the
-- innermost statement. These are the lines of the floating base and of the first token.
abbrev pub base_lines : List Declarator → List ℕ
base_lines = flat_map (λ d. floating_lines (held_by d.ctype) d.second)

abbrev pub first_lines : List Declarator → List ℕ
first_lines = flat_map (λ d. other_lines (held_by d.ctype) d.second)

abbrev pub base_of : Declarator → Base
base_of d = (type_shape d.ctype).base

-- the base of a declaration
abbrev pub common_base : List Declarator → Base
common_base [] = base.Void
common_base (d ∷ ds) = base_of d

abbrev pub init_allowed : Bool → Option Init → Bool
init_allowed allowed None = true
init_allowed allowed (Some i) = allowed && (init_shape i).proper

abbrev pub is_declarator : Bool → Base → Declarator → Bool
is_declarator allowed b d = (type_shape d.ctype).proper && (same_base b (base_of d) && init_allowed allowed d.init)

abbrev pub all_declarators : Bool → Base → List Declarator → Bool
all_declarators allowed b [] = true
all_declarators allowed b (d ∷ ds) = is_declarator allowed b d && all_declarators allowed b ds

-- at least one name, all of one base, which isn't `void`
abbrev pub are_names : Bool → List Declarator → Bool
are_names allowed names = not (is_void (common_base names)) && all_declarators allowed (common_base names) names

-- `lines` are further ones of the first token
abbrev pub declared : List ℕ → Bool → List Declarator → Spelling
declared lines true names = key_on (lines ++ first_lines names) key.Static (base_on (base_lines names) (common_base names) (commas (map declarator names)))
declared lines false names = base_on (lines ++ (first_lines names ++ base_lines names)) (common_base names) (commas (map declarator names))

unfoldable pub declaration : List ℕ → Declaration → Spelling
declaration lines d = declared lines d.is_static d.names

unfoldable pub is_declaration : Declaration → Bool
is_declaration d = are_names true d.names

-- ---- statements

pub data Form : Type 0 where
  simple : Form
  declares : Form
  pragma : Form
  other : Form

-- What is to be known of a statement. `bare` is what stands before the `;` of a simple statement or a declaration. A `dangling`
-- statement ends in an `if` without `else`.
pub record StmtShape : Type 0 where
  pub form : Form
  pub bare : Spelling
  pub spelling : Spelling
  pub dangling : Bool
  pub proper : Bool

-- what may stand where the grammar asks for a statement
abbrev pub is_statement : Form → Bool
is_statement simple = true
is_statement other = true
is_statement _ = false

abbrev pub is_simple : Form → Bool
is_simple simple = true
is_simple _ = false

-- what may stand first in the head of a `for`
abbrev pub is_head : Form → Bool
is_head simple = true
is_head declares = true
is_head _ = false

abbrev pub assign_mark : Option BinOp → Mark
assign_mark (Some binary.Add) = mark.PlusAssign
assign_mark (Some binary.Sub) = mark.MinusAssign
assign_mark (Some binary.Mul) = mark.StarAssign
assign_mark (Some binary.Div) = mark.SlashAssign
assign_mark (Some binary.Rem) = mark.PercentAssign
assign_mark (Some binary.Left) = mark.LeftAssign
assign_mark (Some binary.Right) = mark.RightAssign
assign_mark (Some binary.BitAnd) = mark.AmpAssign
assign_mark (Some binary.BitOr) = mark.BarAssign
assign_mark (Some binary.Xor) = mark.CaretAssign
assign_mark _ = mark.Assign

-- there is such an assignment
abbrev pub assigns : Option BinOp → Bool
assigns (Some binary.Or) = false
assigns (Some binary.And) = false
assigns (Some binary.Equal) = false
assigns (Some binary.Unequal) = false
assigns (Some binary.Less) = false
assigns (Some binary.Greater) = false
assigns (Some binary.AtMost) = false
assigns (Some binary.AtLeast) = false
assigns _ = true

abbrev pub bump_mark : Bool → Mark
bump_mark true = mark.PlusPlus
bump_mark false = mark.MinusMinus

abbrev pub call_node : Node-F Node Expr → Bool
call_node (node.Call name arguments) = true
call_node _ = false

unfoldable pub is_call : Expr → Bool
is_call e = call_node (out-Node e.node)

abbrev pub before_semicolon : Form → Spelling → Bool → StmtShape
before_semicolon form bare proper = record { form = form; bare = bare; spelling = bare ++ put_mark mark.Semicolon []; dangling = false; proper = proper }

abbrev pub of_form : Form → Spelling → Bool → Bool → StmtShape
of_form form spelling dangling proper = record { form = form; bare = []; spelling = spelling; dangling = dangling; proper = proper }

-- a statement that is a part of another
abbrev pub is_part : StmtShape → Bool
is_part s = is_statement s.form && s.proper

abbrev pub all_stmts : List StmtShape → Bool
all_stmts [] = true
all_stmts (s ∷ ss) = s.proper && all_stmts ss

-- the statements of a block, and its end
abbrev pub statements : List StmtShape → Spelling
statements ss = flat_map (λ s. s) (map (λ s. s.spelling) ss) ++ put_mark mark.CloseBrace []

-- the parts of the head of a `for`
abbrev pub head_first : Option StmtShape → Spelling
head_first None = put_mark mark.Semicolon []
head_first (Some s) = s.spelling

abbrev pub is_first : Option StmtShape → Bool
is_first None = true
is_first (Some s) = is_head s.form && s.proper

abbrev pub head_test : Option Expr → Spelling
head_test None = []
head_test (Some e) = (shape e).spelling

abbrev pub is_test : Option Expr → Bool
is_test None = true
is_test (Some e) = (shape e).proper

abbrev pub head_next : Option StmtShape → Spelling
head_next None = []
head_next (Some s) = s.bare

abbrev pub is_next : Option StmtShape → Bool
is_next None = true
is_next (Some s) = is_simple s.form && s.proper

-- One level of a statement, of which the line and the second line are given. Lines are kept as those of an expression are.
abbrev pub act_step : Act-F (ℕ → ℕ → StmtShape) StmtShape → ℕ → ℕ → StmtShape
act_step act.Empty line second = of_form other (mark_on (line ∷ second ∷ []) mark.Semicolon []) false true
act_step (act.Block ss) line second = of_form other (mark_on (line ∷ second ∷ []) mark.OpenBrace (statements ss)) false (all_stmts ss)
act_step (act.Set op place value) line second =
    before_semicolon simple (first_on (line ∷ []) (shape place).spelling ++ mark_at second (assign_mark op) (shape value).spelling)
    (assigns op && (nat_le 13 (shape place).level && ((shape place).proper && (shape value).proper)))
act_step (act.Bump up true place) line second =
    before_semicolon simple (mark_on (line ∷ second ∷ []) (bump_mark up) (shape place).spelling) (nat_le 13 (shape place).level && (shape place).proper)
act_step (act.Bump up false place) line second =
    before_semicolon simple (first_on (line ∷ []) (shape place).spelling ++ mark_at second (bump_mark up) []) (nat_le 13 (shape place).level && (shape place).proper)
act_step (act.Call e) line second = before_semicolon simple (first_on (line ∷ second ∷ []) (shape e).spelling) (is_call e && (shape e).proper)
act_step (act.If c s None) line second =
    of_form other (key_on (line ∷ second ∷ []) key.If (put_mark mark.OpenParen ((shape c).spelling ++ put_mark mark.CloseParen s.spelling))) true ((shape c).proper && is_part s)
-- an `else` follows the nearest open `if`
act_step (act.If c s (Some t)) line second =
    of_form other (key_on (line ∷ second ∷ []) key.If (put_mark mark.OpenParen ((shape c).spelling ++ put_mark mark.CloseParen (s.spelling ++ put_key key.Else t.spelling)))) t.dangling
    ((shape c).proper && (not s.dangling && (is_part s && is_part t)))
act_step (act.While c s) line second =
    of_form other (key_on (line ∷ second ∷ []) key.While (put_mark mark.OpenParen ((shape c).spelling ++ put_mark mark.CloseParen s.spelling))) s.dangling ((shape c).proper && is_part s)
act_step (act.DoWhile s c) line second =
    of_form other (key_on (line ∷ second ∷ []) key.Do (s.spelling ++ put_key key.While (put_mark mark.OpenParen ((shape c).spelling ++ put_mark mark.CloseParen (put_mark mark.Semicolon []))))) false
    (is_part s && (shape c).proper)
act_step (act.For first test next body) line second =
    of_form other (key_on (line ∷ second ∷ []) key.For (put_mark mark.OpenParen (head_first first ++ (head_test test ++ put_mark mark.Semicolon (head_next next ++ put_mark mark.CloseParen body.spelling))))) body.dangling
    (is_first first && (is_test test && (is_next next && is_part body)))
act_step (act.Return None) line second = of_form other (key_on (line ∷ second ∷ []) key.Return (put_mark mark.Semicolon [])) false true
act_step (act.Return (Some e)) line second = of_form other (key_on (line ∷ second ∷ []) key.Return ((shape e).spelling ++ put_mark mark.Semicolon [])) false (shape e).proper
act_step act.Break line second = of_form other (key_on (line ∷ second ∷ []) key.Break (put_mark mark.Semicolon [])) false true
act_step act.Continue line second = of_form other (key_on (line ∷ second ∷ []) key.Continue (put_mark mark.Semicolon [])) false true
act_step (act.Declare d) line second = before_semicolon declares (declaration (line ∷ second ∷ []) d) (is_declaration d)
act_step (act.Cle p) line second = of_form pragma (put_on (line ∷ second ∷ []) (sign.Cle p) []) false true

unfoldable pub stmt_shape : Stmt → StmtShape
stmt_shape = fold-Stmt (ℕ → ℕ → StmtShape) StmtShape act_step (λ s. s.node s.line s.second)
