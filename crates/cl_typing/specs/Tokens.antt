-- Where a program has tokens of pointers, and where floating types and literals: E08 and E09.
use Rattle.std.specs.Prelude.{ℕ, List, [], ◌∷◌, ◌++◌, map, Option, Some, None, option_map}
use Rattle.std.specs.List.{flat_map}
use Rattle.cl_tree.specs.declared.kinds.UnOp.{UnOp}
use Rattle.cl_tree.specs.declared.kinds.UnOp.TheVariants as unary
use Rattle.cl_tree.specs.declared.tree.CType.{CType}
use Rattle.cl_tree.specs.declared.tree.Expr.{Expr, fold-Expr}
use Rattle.cl_tree.specs.declared.tree.Node.{Node-F}
use Rattle.cl_tree.specs.declared.tree.Node.TheOpen as node
use Rattle.cl_tree.specs.declared.tree.Init.{Init, Init-F, fold-Init}
use Rattle.cl_tree.specs.declared.tree.Init.TheOpen as init
use Rattle.cl_tree.specs.declared.tree.Declarator.{Declarator}
use Rattle.cl_tree.specs.declared.tree.Declaration.{Declaration}
use Rattle.cl_tree.specs.declared.tree.Stmt.{Stmt, fold-Stmt}
use Rattle.cl_tree.specs.declared.tree.Act.{Act-F}
use Rattle.cl_tree.specs.declared.tree.Act.TheOpen as act
use Rattle.cl_tree.specs.declared.tree.Item.{Item}
use Rattle.cl_tree.specs.declared.tree.Item.TheVariants as item
use Rattle.cl_tree.specs.declared.tree.Program.{Program}
use Rattle.cl_tree.specs.Spelling.{held_by, star_lines, floating_lines}
use Rattle.cl_typing.specs.declared.sought.Sought.{Sought}
use Rattle.cl_typing.specs.declared.sought.Sought.TheVariants.{Pointers, Reals}
use Rattle.cl_typing.specs.Rules.{Lines, optional}

-- a type that is written, by the second line of its node: the first `*` of the type, else its floating type
unfoldable pub in_type : Sought → CType → ℕ → Lines
in_type Pointers t second = star_lines (held_by t) second
in_type Reals t second = floating_lines (held_by t) second

-- the operators of pointers
unfoldable pub in_unary : Sought → UnOp → ℕ → Lines
in_unary Pointers unary.Star line = line ∷ []
in_unary Pointers unary.Amp line = line ∷ []
in_unary _ _ line = []

unfoldable pub at_arrow : Sought → ℕ → Lines
at_arrow Pointers line = line ∷ []
at_arrow Reals line = []

unfoldable pub at_real : Sought → ℕ → Lines
at_real Pointers line = []
at_real Reals line = line ∷ []

-- One level of an expression, of which the line and the second line are given.
abbrev pub node_tokens : Sought → Node-F (ℕ → ℕ → Lines) Lines → ℕ → ℕ → Lines
node_tokens sought node.Real line second = at_real sought line
node_tokens sought (node.Unary op e) line second = in_unary sought op line ++ e
node_tokens sought (node.Binary op a b) line second = a ++ b
node_tokens sought (node.Choice c a b) line second = c ++ (a ++ b)
node_tokens sought (node.Cast t e) line second = in_type sought t second ++ e
node_tokens sought (node.Call name arguments) line second = flat_map (λ ls. ls) arguments
node_tokens sought (node.Index a i) line second = a ++ i
node_tokens sought (node.Member a name) line second = a
node_tokens sought (node.Arrow a name) line second = a ++ at_arrow sought second
node_tokens sought (node.Paren e) line second = e
node_tokens sought _ line second = []

unfoldable pub expr_tokens : Sought → Expr → Lines
expr_tokens sought = fold-Expr (ℕ → ℕ → Lines) Lines (node_tokens sought) (λ e. e.node e.line e.second)

abbrev pub init_step : Sought → Init-F Lines → Lines
init_step sought (init.One e) = expr_tokens sought e
init_step sought (init.Many parts) = flat_map (λ ls. ls) parts

unfoldable pub init_tokens : Sought → Init → Lines
init_tokens sought = fold-Init Lines (init_step sought)

unfoldable pub declarator_tokens : Sought → Declarator → Lines
declarator_tokens sought d = in_type sought d.ctype d.second ++ optional (option_map (init_tokens sought) d.init)

unfoldable pub declaration_tokens : Sought → Declaration → Lines
declaration_tokens sought d = flat_map (declarator_tokens sought) d.names

abbrev pub act_tokens : Sought → Act-F Lines Lines → Lines
act_tokens sought (act.Block ss) = flat_map (λ ls. ls) ss
act_tokens sought (act.Set op place value) = expr_tokens sought place ++ expr_tokens sought value
act_tokens sought (act.Bump up prefix place) = expr_tokens sought place
act_tokens sought (act.Call e) = expr_tokens sought e
act_tokens sought (act.If c s other) = expr_tokens sought c ++ (s ++ optional other)
act_tokens sought (act.While c s) = expr_tokens sought c ++ s
act_tokens sought (act.DoWhile s c) = s ++ expr_tokens sought c
act_tokens sought (act.For first test next body) =
    optional first ++ (optional (option_map (expr_tokens sought) test) ++ (optional next ++ body))
act_tokens sought (act.Return e) = optional (option_map (expr_tokens sought) e)
act_tokens sought (act.Declare d) = declaration_tokens sought d
act_tokens sought _ = []

unfoldable pub stmt_tokens : Sought → Stmt → Lines
stmt_tokens sought = fold-Stmt Lines Lines (act_tokens sought) (λ s. s.node)

unfoldable pub body_tokens : Sought → Option (List Stmt) → Lines
body_tokens sought None = []
body_tokens sought (Some ss) = flat_map (λ ls. ls) (map (stmt_tokens sought) ss)

unfoldable pub item_tokens : Sought → Item → Lines
item_tokens sought (item.Struct name members line) = flat_map (declaration_tokens sought) members
item_tokens sought (item.Variables d) = declaration_tokens sought d
item_tokens sought (item.Function is_static result name void_word params body line second) =
    in_type sought result second ++ (flat_map (declarator_tokens sought) params ++ body_tokens sought body)
item_tokens sought (item.Cle p line) = []

unfoldable pub program_tokens : Sought → Program → Lines
program_tokens sought program = flat_map (item_tokens sought) program.items
